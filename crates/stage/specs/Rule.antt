-- The rule for a pair, whole. Assumes nothing.
use Rattle.std.specs.Prelude.{◌≡◌, ℕ, ◌^◌, ◌<◌, cond, ◌&&◌, List, ◌==◌}
use Rattle.stage.specs.Bits.{Bits, xor}
use Rattle.stage.specs.Meaning.{Meaning, Lawful, word}

-- p is what first a and then b mean, under one setting
pub record PairRule (a b p : Meaning) : Type 0 where
  -- the second's length at the first's length, or none where either has none
  pub lengths : (n e : ℕ) → p.size n e ≡ cond (a.size n e == 0) 0 (b.size (a.size n e) e)
  -- the second's map of the first's image
  pub maps : (n e : ℕ) (x : List ℕ) → p.image n e x ≡ b.image (a.size n e) e (a.image n e x)
  -- the second's map of the first's offset, exclusive-or the second's offset
  pub offsets : (n e seed : ℕ) → p.offset n e seed ≡ xor (b.image (a.size n e) e (a.offset n e seed)) (b.offset (a.size n e) e seed)
  -- covering exactly when both are
  pub marks : (n e : ℕ) → p.covers n e ≡ (a.covers n e && b.covers (a.size n e) e)
  -- a lawful stage again
  pub lawful : Lawful p
  -- the word is the second's word of the first's word
  pub words : (n e seed : ℕ) (x : List ℕ) → 0 < p.size n e → seed < 2 ^ 31 → Bits n x
      → word p n e seed x ≡ word b (a.size n e) e seed (word a n e seed x)
