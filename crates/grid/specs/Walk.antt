-- The walk over a list in rising place: things put on its chosen places, and taken from them. Assumes nothing.
use Rattle.std.specs.Prelude.{ℕ, zero, suc, Bool, cond, List, [], ◌∷◌, Some, None, Option, filter}
use Rattle.std.specs.List.{range_with_len}

-- the list xs, whose first element has the place i, after the things ts were put on its chosen places, as far as they go
unfoldable pub laid : {X : Type 0} → (ℕ → Bool) → ℕ → List X → List X → List X
laid d i [] ts = []
laid d i (x ∷ xs) [] = x ∷ xs
laid d i (x ∷ xs) (t ∷ ts) = cond (d i) (t ∷ laid d (suc i) xs ts) (x ∷ laid d (suc i) xs (t ∷ ts))

-- what stands on the chosen places of xs
unfoldable pub taken : {X : Type 0} → (ℕ → Bool) → ℕ → List X → List X
taken d i [] = []
taken d i (x ∷ xs) = cond (d i) (x ∷ taken d (suc i) xs) (taken d (suc i) xs)

-- how many of the n places from i on are chosen
unfoldable pub count : (ℕ → Bool) → ℕ → ℕ → ℕ
count d i zero = 0
count d i (suc n) = cond (d i) (suc (count d (suc i) n)) (count d (suc i) n)

-- the first chosen of the n places from i on
unfoldable pub next_place : (ℕ → Bool) → ℕ → ℕ → Option ℕ
next_place d i zero = None
next_place d i (suc n) = cond (d i) (Some i) (next_place d (suc i) n)

-- the chosen ones of the n places from i on
abbrev pub places : (ℕ → Bool) → ℕ → ℕ → List ℕ
places d i n = filter d (range_with_len i n)

-- the list ys, overwritten by the things ts from its front on, as far as it goes
unfoldable pub overwritten : {X : Type 0} → List X → List X → List X
overwritten [] ts = []
overwritten (y ∷ ys) [] = y ∷ ys
overwritten (y ∷ ys) (t ∷ ts) = t ∷ overwritten ys ts
