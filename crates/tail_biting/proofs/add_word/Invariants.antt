use Rattle.std.proofs.Common.{◌≡◌, take}
use Rattle.std.specs.List.{flat_map}
use Rattle.stage.specs.Bits.{xor}
use Rattle.tail_biting.specs.Coding.{stream}
use Rattle.tail_biting.proofs.add_word.Given as goal

abbrev pub invariant-loop-j : goal.invariant-loop-j
invariant-loop-j l = l.out ≡ xor l.initial.out (flat_map (λ ts. stream ts l.block) (take l.j l.taps-items))
