use Rattle.std.proofs.Common.{◌≡◌, take}
use Rattle.stage.specs.Bits.{xor}
use Rattle.tail_biting.proofs.add_bits.Given as goal

abbrev pub invariant-loop-k : goal.invariant-loop-k
invariant-loop-k l = l.out ≡ xor l.initial.out (take l.k l.bits)
