use Rattle.std.proofs.Common.{ap, sym, ◌∙◌, arith}
use Rattle.std.proofs.lemmas.List.{take_all}
use Rattle.stage.specs.Bits.{xor}
use Rattle.stage.specs.Xors.{xor_nil}
use Rattle.tail_biting.specs.Codes.{streams, streams_more, streams-all}
use Rattle.tail_biting.proofs.add_word.Goals as goal

pub loop-j-init : goal.loop-j-init
loop-j-init c = sym (xor_nil c.args.out.now)

pub loop-j-preserved : goal.loop-j-preserved
loop-j-preserved c =
    streams_more c.args.block.now _ c.loop-j.j c.args.out.now c.loop-j.out c.add_stream.new.out
    (omega arith) c.requires.same c.loop-j.invariant c.add_stream.ensures

pub returns : goal.returns
returns c =
    c.loop-j.invariant
    ∙ ap (xor c.args.out.now)
    (ap (streams c.args.block.now) (take_all c.loop-j.j _ (omega arith)) ∙ streams-all c.args.block.now)
