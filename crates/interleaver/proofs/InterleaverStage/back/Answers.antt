use Rattle.std.proofs.Common.{arith}
use Rattle.interleaver.specs.Interleaves.{back_room, interleave_back}
use Rattle.interleaver.proofs.InterleaverStage.back.Goals as goal

pub holding-requires : goal.holding-requires
holding-requires c =
    (back_room c.args.n c.args.s c.args.work.now c.args.side.now c.length-m.result c.length-m.ensures
    c.covers.result c.covers.ensures c.in_ok-admit_back.ensures).0

pub deinterleave-requires : goal.deinterleave-requires
deinterleave-requires c =
    let room = back_room c.args.n c.args.s c.args.work.now c.args.side.now c.length-m.result c.length-m.ensures
    c.covers.result c.covers.ensures c.in_ok-admit_back.ensures in
    let same = c.holding.ensures in
    record { work_holds = omega arith; side_holds = omega arith }

pub returns : goal.returns
returns c =
    interleave_back c.args.n c.args.s c.args.work.now c.args.side.now c.length-m.result c.length-m.ensures
    c.covers.result c.covers.ensures c.in_ok-admit_back.ensures c.deinterleave.new.work
    c.clear_from.new.buffer c.drop-guard.new.self.0
    (omega arith) (rw c.holding.ensures at c.deinterleave.ensures) c.clear_from.ensures (cc)
