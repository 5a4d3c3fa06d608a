-- Word lengths that are there where a test says so. Assumes nothing.
use Rattle.std.proofs.Common.{◌≡◌, ℕ, ◌<◌, ◌≤◌, Bool, true, false, cond, ltb, leb, refl, arith}
use Rattle.std.proofs.lemmas.Bool.{and_parts, ltb-true, leb-true}
use Rattle.stage.specs.Ranges.{within}

pub cond_some : (t : Bool) (e : ℕ) → 0 < cond t e 0 → t ≡ true
cond_some true e h = refl
cond_some false e h = let z : ⊥ = omega arith in absurd z

pub within_parts : (n : ℕ) → within n ≡ true → (0 < n) × (n ≤ 7680)
within_parts n e = let p = and_parts (ltb 0 n) (leb n 7680) e in (ltb-true 0 n p.0, leb-true n 7680 p.1)
