-- The bits to come of a generator.
use Rattle.std.proofs.Common.{◌≡◌, ℕ, ◌+◌, ◌%◌, refl, add-one, arith}
use Rattle.gold.specs.Registers.{bits_of}
use Rattle.gold.specs.Sequence.{fresh₁, fresh₂, shifted, x₁, x₂, gold}
use Rattle.gold.proofs.Window.{window_none, window_suc}

pub bits_first : (a b : ℕ) → bits_of (record { x1 = a; x2 = b }) 0 ≡ (a + b) % 2
unfolding bits_of
bits_first a b =
    let p = window_none fresh₁ a in
    let q = window_none fresh₂ b in
    omega arith

pub bits_rest : (a b k : ℕ) → bits_of (record { x1 = shifted fresh₁ a; x2 = shifted fresh₂ b }) k ≡ bits_of (record { x1 = a; x2 = b }) (k + 1)
unfolding bits_of
bits_rest a b k = rw (add-one, window_suc fresh₁ a k, window_suc fresh₂ b k)

pub bits_start : (seed k : ℕ) → bits_of (record { x1 = 1; x2 = seed }) (k + 1600) ≡ gold seed k
unfolding bits_of gold x₁ x₂
bits_start seed k = refl
