-- When all parts of a grant are ticked. Assumes nothing.
use Rattle.std.proofs.Common.{◌≡◌, ℕ, zero, suc, ◌-◌, ◌*◌, ◌<◌, ◌≤◌, true, false, not, ◌&&◌, eqb, ltb, List, [], ◌∷◌, refl, arith}
use Rattle.std.proofs.Math.Nat.{suc-mul, mul-le-mul_right, mul-mod_left, mul-div_cancel}
use Rattle.std.proofs.lemmas.Bool.Decides.{nat_tests}
use Rattle.std.proofs.lemmas.Nat.{div-add-mod', div_below}
use Rattle.calendar.specs.declared.grant.Grant.{Grant}
use Rattle.calendar.specs.Grants.{member}
use Rattle.calendar.specs.Rounds.{copies, round, part_at, first_copy, last_part}
use Rattle.calendar.proofs.Counting.{part_first}
use Rattle.link.specs.Account.{complete}

-- the ticks once k subframes are gone
abbrev pub ticked_after : Grant → ℕ → List ℕ
ticked_after g zero = []
ticked_after g (suc k) = part_at g k ∷ ticked_after g k

-- the last part is n, and its first copy is subframe n * copies g
module _ (g : Grant) (some : 0 < copies g) (n : ℕ) (is : g.subframes ≡ suc n) where
  not_yet : (k : ℕ) → k ≤ n * copies g → member n (ticked_after g k) ≡ false
  not_yet zero h = refl
  not_yet (suc k) h = grind (arith, part_first, div_below, suc-mul, nat_tests, not_yet k)

  at : (p : ℕ) → p ≤ n → p * copies g < round g → part_at g (p * copies g) ≡ p
  at p low h = grind (arith, part_first, mul-div_cancel)

  ticked : (p : ℕ) → p ≤ n → (k : ℕ) → p * copies g < k → member p (ticked_after g k) ≡ true
  ticked p low zero h = absurd (omega arith)
  ticked p low (suc k) h =
      let l = mul-le-mul_right (copies g) low in
      let s = suc-mul n (copies g) in
      let a = at p low in
      grind (arith, nat_tests, ticked p low k)

  all_ticked : (k : ℕ) → n * copies g < k → (j : ℕ) → j ≤ suc n → complete j (ticked_after g k) ≡ true
  all_ticked k h zero low = refl
  all_ticked k h (suc j) low =
      let l : j * copies g ≤ n * copies g = mul-le-mul_right (copies g) (omega arith) in
      grind (arith, ticked j, all_ticked k h j)

  complete_is : (k : ℕ) → complete g.subframes (ticked_after g k) ≡ ltb (n * copies g) k
  complete_is k = rw is (grind (arith, nat_tests, ticked n, all_ticked, not_yet))

  last_is : (k : ℕ) → (first_copy g k && last_part g k) ≡ eqb k (n * copies g)
  unfolding first_copy
  last_is k = grind (arith, nat_tests, part_first, mul-div_cancel, mul-mod_left, div-add-mod', suc-mul)

  completes-at : (k : ℕ)
      → (complete g.subframes (ticked_after g (suc k)) && not (complete g.subframes (ticked_after g k))) ≡ (first_copy g k && last_part g k)
  completes-at k = rw (complete_is (suc k), complete_is k, last_is k) (grind (arith, nat_tests))

-- the tick that completes all parts is the first copy of the last part in the first round
pub completing : (g : Grant) (k : ℕ) → 0 < copies g → 0 < g.subframes
    → (complete g.subframes (ticked_after g (suc k)) && not (complete g.subframes (ticked_after g k))) ≡ (first_copy g k && last_part g k)
completing g k few some = completes-at g few (g.subframes - 1) (omega arith) k
