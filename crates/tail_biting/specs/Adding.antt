-- Bits added in place, to a list or to parts of it. Assumes nothing.
use Rattle.std.specs.Prelude.{◌≡◌, ℕ, zero, suc, ◌+◌, ◌<◌, ◌≤◌, List, [], ◌∷◌, ◌++◌, length, take, drop, bit_xor, slice_index, slice_set, refl}
use Rattle.std.proofs.Common.{sym, ap, ◌∙◌, arith}
use Rattle.std.specs.Int.Bits.{xor_zero_r}
use borrow.Rule.Slice.PartMut.{put_mid}
use Rattle.std.proofs.lemmas.List.{take_more, length-take-le}
use Rattle.stage.specs.Bits.{xor, zeros}
use Rattle.stage.specs.Xors.{xor_assoc, xor_back, xor_more, xor_front, xor_middle, zeros-xor, length-xor, cons_same}

-- a loop that adds one bit more
pub added_more : (xs ys bits : List ℕ) (k : ℕ) → k < length bits → length bits ≤ length xs → ys ≡ xor xs (take k bits)
    → slice_set ys k (bit_xor (slice_index ys k) (slice_index bits k)) ≡ xor xs (take (k + 1) bits)
added_more xs ys bits k h room e =
    let l : length (take k bits) ≡ k = length-take-le k bits (omega arith) in
    let one = xor_more xs (take k bits) (slice_index bits k) (omega arith) in
    simp e (simp l at one) ∙ ap (xor xs) (sym (take_more bits k 0 h))

-- bits added to the part `..k`
pub added_front : (xs ys part : List ℕ) (k : ℕ) → length ys ≡ k → k ≤ length xs → part ≡ xor (take k xs) ys → part ++ drop k xs ≡ xor xs ys
added_front xs ys part k l h e = simp (e, ← l) (xor_front xs ys (omega arith))

-- to the part of k bits from the place a on
added_middle : (xs ys part : List ℕ) (a k : ℕ) → length ys ≡ k → a + k ≤ length xs → part ≡ xor (take k (drop a xs)) ys
    → put_mid a k xs part ≡ xor xs (zeros a ++ ys)
added_middle xs ys part a k l h e = simp (e, ← l) (xor_middle a xs ys (omega arith))

xor-behind : (xs ys : List ℕ) (n : ℕ) → length xs ≡ n → xor xs (zeros n ++ ys) ≡ xs ++ ys
xor-behind [] ys zero e = refl
xor-behind [] ys (suc n) e = absurd (omega arith)
xor-behind (x ∷ xs) ys zero e = absurd (omega arith)
xor-behind (x ∷ xs) ys (suc n) e = cons_same (xor_zero_r x) (xor-behind xs ys n (omega arith))

-- to the next part, behind those that were added before
pub added_next : (w xs ys w1 part : List ℕ) (a k : ℕ) → length xs ≡ a → length ys ≡ k → a + k ≤ length w → w1 ≡ xor w xs
    → part ≡ xor (take k (drop a w1)) ys → put_mid a k w1 part ≡ xor w (xs ++ ys)
added_next w xs ys w1 part a k lx ly room e p =
    let l : length w1 ≡ length w = omega (arith, ap length e, length-xor w xs) in
    added_middle w1 ys part a k ly (omega arith) p
    ∙ ap (λ (v : List ℕ). xor v (zeros a ++ ys)) e
    ∙ xor_assoc w xs (zeros a ++ ys)
    ∙ ap (xor w) (xor-behind xs ys a lx)

-- two lists that leave nothing are the same
pub xor_none : (xs ys : List ℕ) → length xs ≡ length ys → xor xs ys ≡ zeros (length xs) → ys ≡ xs
xor_none xs ys l e =
    sym (zeros-xor (length xs) ys (omega arith)) ∙ ap (λ (zs : List ℕ). xor zs ys) (sym e) ∙ xor_back xs ys (omega arith)
