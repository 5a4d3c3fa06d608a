-- The subframes of a grant, counted. Assumes nothing.
use Rattle.std.proofs.Common.{◌≡◌, ℕ, suc, ◌+◌, ◌-◌, ◌*◌, ◌/◌, ◌%◌, ◌<◌, ◌≤◌, min, Bool, true, false, ◌&&◌, eqb, ltb, leb, ◌⊎◌, List, [], ◌∷◌, sym, refl, ap, ◌∙◌, inl, inr, ⊎_elim, mod-eq_of_lt, mul-pos, arith}
use Rattle.std.proofs.Math.Nat.{div-eq_of_lt, div-zero, eq-zero-or-pos, pos_of_ne-zero, add-div_right, suc-mul}
use Rattle.std.proofs.lemmas.Nat.{div-mul-add, div-add-mod', le-div, mod_below, div_below}
use Rattle.std.proofs.lemmas.Bool.{and_parts, and_cases, or_cases, both_ways, leb-true, ltb-true, ltb-false, eqb-true, eqb-false}
use Rattle.std.proofs.lemmas.Bool.Decides.{nat_tests}
use Rattle.calendar.specs.declared.grant.Grant.{Grant}
use Rattle.calendar.specs.declared.time.Time.{Time}
use Rattle.calendar.specs.Grants.{member, counts, repetition_counts, count_allowed, repetitions_allowed}
use Rattle.calendar.specs.Rounds.{copies, round, whole, part_at, round_first, owed, first_copy, seed_of, seed_at}
use Rattle.calendar.specs.Times.{open_at}

abbrev every : (ℕ → Bool) → List ℕ → Bool
every p [] = true
every p (x ∷ xs) = p x && every p xs

-- what holds of all in a list holds of each
pub listed : (p : ℕ → Bool) (xs : List ℕ) → every p xs ≡ true → (n : ℕ) → member n xs ≡ true → p n ≡ true
listed p [] a n h = absurd (both_ways false refl h)
listed p (x ∷ xs) a n h =
    let b = and_parts (p x) (every p xs) a in
    ⊎_elim (λ e. ap p (eqb-true n x e) ∙ b.0) (λ e. listed p xs b.1 n e) (or_cases (eqb n x) (member n xs) h)

pub count_some : (g : Grant) → count_allowed g ≡ true → 0 < g.subframes
count_some g h = ltb-true 0 g.subframes (listed (ltb 0) counts refl g.subframes h)

pub count_most : (g : Grant) → count_allowed g ≡ true → g.subframes ≤ 10
count_most g h = leb-true g.subframes 10 (listed (λ n. leb n 10) counts refl g.subframes h)

pub repetitions_some : (g : Grant) → repetitions_allowed g ≡ true → 0 < g.repetitions
repetitions_some g h = ltb-true 0 g.repetitions (listed (ltb 0) repetition_counts refl g.repetitions h)

pub copies_some : (g : Grant) → repetitions_allowed g ≡ true → 0 < copies g
copies_some g h = let r = repetitions_some g h in omega arith

pub round_some : (g : Grant) → count_allowed g ≡ true → repetitions_allowed g ≡ true → 0 < round g
round_some g c r = mul-pos (count_some g c) (copies_some g r)

pub whole_some : (g : Grant) → count_allowed g ≡ true → repetitions_allowed g ≡ true → 0 < whole g
whole_some g c r = mul-pos (count_some g c) (repetitions_some g r)

-- each part is one of the word's
pub part_below : (g : Grant) (k : ℕ) → 0 < copies g → 0 < g.subframes → part_at g k < g.subframes
unfolding part_at
part_below g k r n = div_below (k % round g) (copies g) g.subframes r (mod_below k (round g) (mul-pos n r))

-- the last subframe, by what is owed and by what is gone
pub last_gone : (g : Grant) (k : ℕ) → k < whole g → eqb (owed g k) 0 ≡ eqb (suc k) (whole g)
last_gone g k h = grind (arith, nat_tests)

-- a part's first copy stands in the first round
pub first_is : (g : Grant) (k : ℕ) → first_copy g k ≡ true → (k < round g) × (k % copies g ≡ 0)
unfolding first_copy
first_is g k h = (grind (arith, nat_tests), grind (arith, nat_tests))

pub part_first : (g : Grant) (k : ℕ) → k < round g → part_at g k ≡ k / copies g
unfolding part_at
part_first g k h = ap (λ x. x / copies g) (mod-eq_of_lt h)

-- in the first round, the seed is that of its first subframe
pub seed_first : (identity : ℕ) (g : Grant) (start : Time) (k : ℕ) → first_copy g k ≡ true
    → seed_at identity g start k ≡ seed_at identity g start 0
unfolding seed_at round_first
seed_first identity g start k h =
    let l = (first_is g k h).0 in
    let z : 0 < round g = omega arith in
    ap (λ q. seed_of identity g.rnti (open_at start (q * round g))) (div-eq_of_lt l ∙ sym (div-eq_of_lt z))

-- how many parts have had their first copy once k subframes are gone
abbrev pub reads : Grant → ℕ → ℕ
reads g k = min g.subframes ((k + (copies g - 1)) / copies g)

-- k / r rounded up, and one k further
module _ (k r : ℕ) (some : 0 < r) where
  up_next : (suc k + (r - 1)) / r ≡ suc (k / r)
  up_next = ap (λ (x : ℕ). x / r) (omega arith) ∙ add-div_right k some ∙ omega arith

  up_start : k % r ≡ 0 → (k + (r - 1)) / r ≡ k / r
  up_start h =
      let d = div-add-mod' k r in
      ap (λ (x : ℕ). x / r) (omega arith) ∙ div-mul-add (k / r) r (r - 1) (omega arith)

  up_in : 0 < k % r → (k + (r - 1)) / r ≡ suc (k / r)
  up_in h =
      let d = div-add-mod' k r in
      let low = mod_below k r some in
      let s = suc-mul (k / r) r in
      ap (λ (x : ℕ). x / r) (omega arith) ∙ div-mul-add (suc (k / r)) r (k % r - 1) (omega arith)

  -- past n runs, or within one, one k further leaves no more than n of them as many as they were
  up_same : (n : ℕ) → (n * r ≤ k) ⊎ (0 < k % r) → min n ((suc k + (r - 1)) / r) ≡ min n ((k + (r - 1)) / r)
  up_same n h =
      ⊎_elim
      (λ e. let past = ⊎_elim (λ l. l) (λ l. absurd (omega arith)) h in
      omega (arith, up_next, up_start e, le-div n k r some past))
      (λ l. omega (arith, up_next, up_in l))
      (eq-zero-or-pos (k % r))

pub reads_none : (g : Grant) → reads g 0 ≡ 0
reads_none g = ⊎_elim (λ e. omega arith) (λ l. omega (arith, up_start 0 (copies g) l (omega arith))) (eq-zero-or-pos (copies g))

-- where a part goes out for the first time, the word is read up to it
module _ (g : Grant) (k : ℕ) (h : first_copy g k ≡ true) where
  first_some : 0 < copies g
  first_some =
      let p = (first_is g k h).0 in
      ⊎_elim (λ e. let z = ap (λ (r : ℕ). g.subframes * r) e in absurd (omega arith)) (λ l. l) (eq-zero-or-pos (copies g))

  first_below : k / copies g < g.subframes
  first_below = div_below k (copies g) g.subframes first_some (first_is g k h).0

  pub reads_now : reads g k ≡ part_at g k
  reads_now =
      let p = first_is g k h in
      omega (arith, up_start k (copies g) first_some p.1, part_first g k p.0, first_below)

  pub reads_next : reads g (suc k) ≡ suc (part_at g k)
  reads_next = omega (arith, up_next k (copies g) first_some, part_first g k (first_is g k h).0, first_below)

pub reads_same : (g : Grant) (k : ℕ) → first_copy g k ≡ false → reads g (suc k) ≡ reads g k
unfolding first_copy
reads_same g k h =
    ⊎_elim (λ e. omega (arith, div-zero (suc k + (copies g - 1)), div-zero (k + (copies g - 1))))
    (λ some. up_same k (copies g) some g.subframes
    (⊎_elim (λ e. inl (ltb-false k (round g) e)) (λ e. inr (pos_of_ne-zero (eqb-false (k % copies g) 0 e)))
    (and_cases (ltb k (round g)) (eqb (k % copies g) 0) h)))
    (eq-zero-or-pos (copies g))
