use Rattle.std.proofs.Common.{arith}
use Rattle.tail_biting.specs.Streams.{added_taps_more, added_taps_all}
use Rattle.tail_biting.proofs.add_stream.Goals as goal

pub loop-t-preserved : goal.loop-t-preserved
loop-t-preserved c =
    added_taps_more c.args.block.now c.args.taps.now c.loop-t.t-index c.loop-t.out c.add_tap.new.out _
    (omega arith) c.add_tap.ensures c.loop-t.invariant

pub returns : goal.returns
returns c = added_taps_all c.args.block.now c.args.taps.now _ c.loop-t.out _ (omega arith) (omega arith) c.loop-t.invariant
