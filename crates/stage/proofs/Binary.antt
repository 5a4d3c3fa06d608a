-- A list of bits, place by place. Assumes nothing.
use Rattle.std.proofs.Common.{◌≡◌, ℕ, zero, suc, ◌<◌, Bool, true, false, ◌&&◌, ltb, List, [], ◌∷◌, ◌++◌, length, get_or, take, drop, sym, refl, ap, ◌∙◌, arith}
use Rattle.std.specs.List.{AllByRecursion, list_all}
use lib.Bits.{bit_or, or_lt}
use Rattle.std.proofs.lemmas.Nat.{le_or_l, le_or_r}
use Rattle.std.proofs.lemmas.List.Folds.{list_all-append}
use Rattle.std.proofs.lemmas.Bool.Decides.{nat_tests}
use Rattle.std.proofs.lemmas.Bool.{and_parts, and_from, ltb-true, lt-ltb}
use Rattle.std.proofs.ByRecursion.{All-append, All-take, All-drop, All-get_or}
use Rattle.stage.specs.Bits.{binary, zeros}

-- each element below 2, in the words of the standard library
abbrev pub Small : List ℕ → Type 0
Small xs = AllByRecursion (λ x. x < 2) xs

pub small_from : (xs : List ℕ) → binary xs ≡ true → Small xs
small_from [] e = tt
small_from (x ∷ xs) e =
    let p = and_parts (ltb x 2) (binary xs) e in
    (ltb-true x 2 p.0, small_from xs p.1)

pub binary_small : (xs : List ℕ) → Small xs → binary xs ≡ true
binary_small [] h = refl
binary_small (x ∷ xs) h = and_from (ltb x 2) (binary xs) (lt-ltb x 2 h.0) (binary_small xs h.1)

pub binary_from : (xs : List ℕ) → ((k : ℕ) → k < length xs → get_or xs k 0 < 2) → binary xs ≡ true
binary_from [] h = refl
binary_from (x ∷ xs) h = and_from (ltb x 2) (binary xs) (lt-ltb x 2 (h 0 (omega arith))) (binary_from xs (λ k l. h (suc k) (omega arith)))

pub binary-at : (xs : List ℕ) (k : ℕ) → binary xs ≡ true → k < length xs → get_or xs k 0 < 2
binary-at xs k e h = All-get_or (λ x. x < 2) xs k 0 h (small_from xs e)

pub binary-zeros : (n : ℕ) → binary (zeros n) ≡ true
binary-zeros zero = refl
binary-zeros (suc n) = binary-zeros n

pub binary-append : (xs ys : List ℕ) → binary xs ≡ true → binary ys ≡ true → binary (xs ++ ys) ≡ true
binary-append xs ys p q = binary_small (xs ++ ys) (All-append (λ x. x < 2) xs ys (small_from xs p) (small_from ys q))

pub binary-take : (n : ℕ) (xs : List ℕ) → binary xs ≡ true → binary (take n xs) ≡ true
binary-take n xs p = binary_small (take n xs) (All-take (λ x. x < 2) n xs (small_from xs p))

pub binary-drop : (n : ℕ) (xs : List ℕ) → binary xs ≡ true → binary (drop n xs) ≡ true
binary-drop n xs p = binary_small (drop n xs) (All-drop (λ x. x < 2) n xs (small_from xs p))

-- the test of each element, in the words of the standard library
pub binary_all : (xs : List ℕ) → binary xs ≡ list_all (λ x. ltb x 2) xs
binary_all [] = refl
binary_all (x ∷ xs) = ap (λ t. ltb x 2 && t) (binary_all xs)

or_low : (a x : ℕ) → ltb (bit_or a x) 2 ≡ (ltb a 2 && ltb x 2)
or_low a x = let l = le_or_l a x in let r = le_or_r a x in let b = or_lt 1 a x in grind (arith, nat_tests)

alone : (t : Bool) → t ≡ (t && true)
alone true = refl
alone false = refl

-- a number that is a bit just where each of these bytes is one
unfoldable pub Set : List ℕ → ℕ → Type 0
Set bytes set = ltb set 2 ≡ binary bytes

pub set_none : Set [] 0
unfolding Set
set_none = refl

pub set_more : (bytes : List ℕ) (a x b : ℕ) → b ≡ bit_or a x → Set bytes a → Set (bytes ++ x ∷ []) b
unfolding Set
set_more bytes a x b e h =
    ap (λ b. ltb b 2) e ∙ or_low a x ∙ ap (λ t. t && ltb x 2) h
    ∙ ap (λ t. binary bytes && t) (alone (ltb x 2)) ∙ sym (list_all-append (λ z. ltb z 2) bytes (x ∷ []))
