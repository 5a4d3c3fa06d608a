use Rattle.std.proofs.Common.{◌≡◌, drop}
use Rattle.stage.specs.Bits.{xor}
use Rattle.tail_biting.specs.Coding.{stream}
use Rattle.tail_biting.proofs.add_stream.Given as goal

abbrev pub invariant-loop-t : goal.invariant-loop-t
invariant-loop-t l = xor l.out (stream (drop l.t-index l.taps) l.block) ≡ xor l.initial.out (stream l.taps l.block)
