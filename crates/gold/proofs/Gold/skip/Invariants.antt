use Rattle.std.proofs.Common.{◌≡◌, ℕ, ◌+◌}
use Rattle.gold.specs.Registers.{bits_of}
use Rattle.gold.proofs.Gold.skip.Given as goal

abbrev pub invariant-loop : goal.invariant-loop
invariant-loop l = (k : ℕ) → bits_of l.self k ≡ bits_of l.initial.self (k + l.counter)
