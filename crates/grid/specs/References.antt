-- The bits that the reference elements of a subframe hold. Assumes nothing.
use Rattle.std.specs.Prelude.{ℕ, ◌+◌, ◌*◌, ◌^◌, List, [], ◌∷◌, ◌++◌}
use Rattle.gold.specs.Sequence.{gold}

-- the seed of a symbol's reference bits: symbol q of slot s
abbrev pub reference_seed : ℕ → ℕ → ℕ → ℕ
reference_seed identity s q = 2 ^ 10 * (7 * (s + 1) + q + 1) * (2 * identity + 1) + 2 * identity + 1

-- the pair of reference element i of a symbol with that seed: c(218 + 2 i) and c(219 + 2 i)
abbrev pub reference_pair : ℕ → ℕ → List ℕ
reference_pair seed i = gold seed (218 + 2 * i) ∷ gold seed (219 + 2 * i) ∷ []

-- the pairs of both reference elements of a symbol
abbrev pub symbol_bits : ℕ → List ℕ
symbol_bits seed = reference_pair seed 0 ++ reference_pair seed 1

-- the reference bits of a subframe in rising place: those of symbols 5, 6, 12 and 13, which are 5 and 6 of each slot
unfoldable pub reference_bits : ℕ → ℕ → List ℕ
reference_bits identity subframe =
    symbol_bits (reference_seed identity (2 * subframe) 5) ++ symbol_bits (reference_seed identity (2 * subframe) 6)
    ++ symbol_bits (reference_seed identity (2 * subframe + 1) 5) ++ symbol_bits (reference_seed identity (2 * subframe + 1) 6)
