use Rattle.std.proofs.Common.{◌≡◌, ℕ, ◌+◌}
use Rattle.stage.specs.Bits.{xor}
use Rattle.gold.specs.Sequence.{gold as golden, sequence}
use Rattle.gold.specs.Registers.{bits_of}
use Rattle.chain.proofs.scrambler.add_sequence.Given as goal

abbrev pub invariant-loop-k : goal.invariant-loop-k
invariant-loop-k l =
    ((j : ℕ) → bits_of l.gold j ≡ golden l.seed (j + l.k))
    × (l.bits ≡ xor l.initial.bits (sequence l.seed l.k))
