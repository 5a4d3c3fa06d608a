-- A list that is overwritten from its front on.
use Rattle.std.proofs.Common.{◌≡◌, ℕ, zero, suc, ◌+◌, ◌<◌, ◌≤◌, List, [], ◌∷◌, ◌++◌, length, take, drop, set, sym, refl, ap, ◌∙◌, arith}
use Rattle.grid.specs.Walk.{overwritten}

module _ {X : Type 0} where
  -- ys, of which n elements are written and ts are left
  abbrev pub over_from : ℕ → List X → List X → List X
  over_from n ys ts = take n ys ++ overwritten (drop n ys) ts

  pub over_done : (n : ℕ) (ys : List X) → over_from n ys [] ≡ ys
  unfolding overwritten
  over_done zero [] = refl
  over_done zero (y ∷ ys) = refl
  over_done (suc n) [] = refl
  over_done (suc n) (y ∷ ys) = ap (λ zs. y ∷ zs) (over_done n ys)

  -- no room is left
  pub over_all : (n : ℕ) (ys ts : List X) → length ys ≤ n → over_from n ys ts ≡ ys
  unfolding overwritten
  over_all zero [] ts h = refl
  over_all zero (y ∷ ys) ts h = absurd (omega arith)
  over_all (suc n) [] ts h = refl
  over_all (suc n) (y ∷ ys) ts h = ap (λ zs. y ∷ zs) (over_all n ys ts (omega arith))

  -- the next thing is written
  pub over_more : (n : ℕ) (t : X) (ys ts : List X) → n < length ys → over_from n ys (t ∷ ts) ≡ over_from (n + 1) (set ys n t) ts
  unfolding overwritten
  over_more n t [] ts h = absurd (omega arith)
  over_more zero t (y ∷ ys) ts h = refl
  over_more (suc n) t (y ∷ ys) ts h = let e : suc n + 1 ≡ suc (n + 1) = omega arith in rw e (ap (λ zs. y ∷ zs) (over_more n t ys ts (omega arith)))

  -- the same as a turn of a loop that comes to zs
  pub fetch_more : (n : ℕ) (t : X) (ys us ts zs : List X) → n < length ys → us ≡ t ∷ ts → over_from n ys us ≡ zs → over_from (n + 1) (set ys n t) ts ≡ zs
  fetch_more n t ys us ts zs h e r = sym (over_more n t ys ts h) ∙ ap (over_from n ys) (sym e) ∙ r

  -- where there is just room for all
  pub overwritten-all : (ys ts : List X) → length ts ≡ length ys → overwritten ys ts ≡ ts
  unfolding overwritten
  overwritten-all [] [] h = refl
  overwritten-all [] (t ∷ ts) h = absurd (omega arith)
  overwritten-all (y ∷ ys) [] h = absurd (omega arith)
  overwritten-all (y ∷ ys) (t ∷ ts) h = ap (λ zs. t ∷ zs) (overwritten-all ys ts (omega arith))

  pub length-overwritten : (ys ts : List X) → length (overwritten ys ts) ≡ length ys
  unfolding overwritten
  length-overwritten [] ts = refl
  length-overwritten (y ∷ ys) [] = refl
  length-overwritten (y ∷ ys) (t ∷ ts) = ap suc (length-overwritten ys ts)
