-- What the walk keeps: each thing goes to the place of its number, every other element stays, and what is put is taken again.
use Rattle.std.proofs.Common.{◌≡◌, ℕ, zero, suc, ◌+◌, ◌<◌, Bool, true, false, List, [], ◌∷◌, length, get_or, sym, refl, ◌∙◌, zero-add, arith}
use Rattle.std.proofs.lemmas.List.{nil_from_length}
use Rattle.grid.specs.Walk.{laid, taken, count}
use Rattle.grid.specs.Laws.{WalkLaw, KeepsThings}

module _ {X : Type 0} (d : ℕ → Bool) where
  pub length-laid : (i : ℕ) (xs ts : List X) → length (laid d i xs ts) ≡ length xs
  unfolding laid
  length-laid i [] ts = refl
  length-laid i (x ∷ xs) [] = refl
  length-laid i (x ∷ xs) (t ∷ ts) = grind (arith, length-laid (suc i) xs ts, length-laid (suc i) xs (t ∷ ts))

  pub length_taken : (i : ℕ) (xs : List X) → length (taken d i xs) ≡ count d i (length xs)
  unfolding taken count
  length_taken i [] = refl
  length_taken i (x ∷ xs) = grind (arith, length_taken (suc i) xs)

  -- things put, one for each chosen place, are taken again
  pub taken-laid : (i : ℕ) (xs ts : List X) → length ts ≡ count d i (length xs) → taken d i (laid d i xs ts) ≡ ts
  unfolding laid taken count
  taken-laid i [] ts h = sym (nil_from_length ts h)
  taken-laid i (x ∷ xs) [] h = nil_from_length (taken d i (x ∷ xs)) (length_taken i (x ∷ xs) ∙ sym h)
  taken-laid i (x ∷ xs) (t ∷ ts) h = grind (arith, taken-laid (suc i) xs ts, taken-laid (suc i) xs (t ∷ ts))

  -- What stands at the place p, the j-th of a list whose first element has the place i.

  puts : (i j p : ℕ) (z : X) (xs ts : List X) → p ≡ i + j → d p ≡ true → j < length xs → count d i j < length ts → get_or (laid d i xs ts) j z ≡ get_or ts (count d i j) z
  unfolding laid count
  puts i j p z [] ts f e h k = absurd (omega arith)
  puts i j p z (x ∷ xs) [] f e h k = absurd (omega arith)
  puts i zero p z (x ∷ xs) (t ∷ ts) f e h k = let g : p ≡ i = omega arith in rw (← g, e)
  puts i (suc j) p z (x ∷ xs) (t ∷ ts) f e h k = grind (arith, puts (suc i) j p z xs ts, puts (suc i) j p z xs (t ∷ ts))

  stays : (i j p : ℕ) (z : X) (xs ts : List X) → p ≡ i + j → d p ≡ false → get_or (laid d i xs ts) j z ≡ get_or xs j z
  unfolding laid
  stays i j p z [] ts f e = refl
  stays i j p z (x ∷ xs) [] f e = refl
  stays i zero p z (x ∷ xs) (t ∷ ts) f e = let g : p ≡ i = omega arith in rw (← g, e)
  stays i (suc j) p z (x ∷ xs) (t ∷ ts) f e = grind (arith, stays (suc i) j p z xs ts, stays (suc i) j p z xs (t ∷ ts))

  takes : (i j p : ℕ) (z : X) (xs : List X) → p ≡ i + j → d p ≡ true → j < length xs → get_or (taken d i xs) (count d i j) z ≡ get_or xs j z
  unfolding taken count
  takes i j p z [] f e h = absurd (omega arith)
  takes i zero p z (x ∷ xs) f e h = let g : p ≡ i = omega arith in rw (← g, e)
  takes i (suc j) p z (x ∷ xs) f e h = grind (arith, takes (suc i) j p z xs)

pub walk_law : (X : Type 0) → WalkLaw X
walk_law X = record {
  puts = λ d xs ts place x. puts d 0 place place x xs ts (sym (zero-add place));
  others = λ d xs ts place x. stays d 0 place place x xs ts (sym (zero-add place));
  takes = λ d xs place x. takes d 0 place place x xs (sym (zero-add place));
  back = λ d. taken-laid d 0;
}

pub keeps_things : (X : Type 0) → KeepsThings X
unfolding KeepsThings
keeps_things = walk_law
