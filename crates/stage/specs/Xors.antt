-- The exclusive-or of lists. Assumes nothing.
use Rattle.std.specs.Prelude.{◌≡◌, ℕ, zero, suc, ◌+◌, ◌<◌, ◌≤◌, max, true, List, [], ◌∷◌, ◌++◌, map, length, take, drop, bit_xor, nat_lt, slice_index, slice_set, refl}
use Rattle.std.proofs.Common.{sym, ap, ap₂, ◌∙◌, arith, le_of_suc-le-suc, not-suc-le-zero}
use Rattle.std.proofs.Math.Nat.{suc-max-suc, zero-max, max-zero}
use Rattle.std.specs.Int.Bits.{xor_zero_r, xor_assoc as bit_assoc, xor_self as bit_self}
use Rattle.std.proofs.lemmas.Nat.{xor_comm as bit_comm, xor_lt}
use borrow.Rule.Slice.PartMut.{put_mid}
use Rattle.std.specs.List.{range_with_len}
use Rattle.std.proofs.lemmas.Bool.{and_parts, and_from, ltb-true, lt-ltb}
use Rattle.stage.specs.Bits.{binary, Bits, xor, zeros}

pub cons_same : {x y : ℕ} {xs ys : List ℕ} → x ≡ y → xs ≡ ys → x ∷ xs ≡ y ∷ ys
cons_same e f = ap₂ (λ (u : ℕ) (v : List ℕ). u ∷ v) e f

pub xor_nil : (xs : List ℕ) → xor xs [] ≡ xs
xor_nil [] = refl
xor_nil (x ∷ xs) = refl

pub xor_comm : (xs ys : List ℕ) → xor xs ys ≡ xor ys xs
xor_comm [] [] = refl
xor_comm [] (y ∷ ys) = refl
xor_comm (x ∷ xs) [] = refl
xor_comm (x ∷ xs) (y ∷ ys) = cons_same (bit_comm x y) (xor_comm xs ys)

pub xor_assoc : (xs ys zs : List ℕ) → xor (xor xs ys) zs ≡ xor xs (xor ys zs)
xor_assoc [] ys zs = refl
xor_assoc (x ∷ xs) [] zs = refl
xor_assoc (x ∷ xs) (y ∷ ys) [] = refl
xor_assoc (x ∷ xs) (y ∷ ys) (z ∷ zs) = cons_same (bit_assoc x y z) (xor_assoc xs ys zs)

-- four terms, the middle two changed round
pub xor_medial : (w x y z : List ℕ) → xor (xor w x) (xor y z) ≡ xor (xor w y) (xor x z)
xor_medial w x y z =
    xor_assoc w x (xor y z)
    ∙ ap (xor w) (sym (xor_assoc x y z) ∙ ap (λ (v : List ℕ). xor v z) (xor_comm x y) ∙ xor_assoc y x z)
    ∙ sym (xor_assoc w y (xor x z))

pub bit_medial : (w x y z : ℕ) → bit_xor (bit_xor w x) (bit_xor y z) ≡ bit_xor (bit_xor w y) (bit_xor x z)
bit_medial w x y z =
    bit_assoc w x (bit_xor y z)
    ∙ ap (bit_xor w) (sym (bit_assoc x y z) ∙ ap (λ (v : ℕ). bit_xor v z) (bit_comm x y) ∙ bit_assoc y x z)
    ∙ sym (bit_assoc w y (bit_xor x z))

pub slice_index-xor : (xs ys : List ℕ) (k : ℕ) → slice_index (xor xs ys) k ≡ bit_xor (slice_index xs k) (slice_index ys k)
slice_index-xor [] ys k = refl
slice_index-xor (x ∷ xs) [] k = sym (xor_zero_r (slice_index (x ∷ xs) k))
slice_index-xor (x ∷ xs) (y ∷ ys) zero = refl
slice_index-xor (x ∷ xs) (y ∷ ys) (suc k) = slice_index-xor xs ys k

pub length-xor : (xs ys : List ℕ) → length (xor xs ys) ≡ max (length xs) (length ys)
length-xor [] ys = sym (zero-max (length ys))
length-xor (x ∷ xs) [] = sym (max-zero (length (x ∷ xs)))
length-xor (x ∷ xs) (y ∷ ys) = ap suc (length-xor xs ys) ∙ sym (suc-max-suc (length xs) (length ys))

pub length_xor_same : (xs ys : List ℕ) → length xs ≡ length ys → length (xor xs ys) ≡ length xs
length_xor_same xs ys e = omega (arith, length-xor xs ys)

pub xor_self : (xs : List ℕ) → xor xs xs ≡ zeros (length xs)
xor_self [] = refl
xor_self (x ∷ xs) = cons_same (bit_self x) (xor_self xs)

-- zeros add nothing to a list that is as long
pub zeros-xor : (n : ℕ) (ys : List ℕ) → n ≤ length ys → xor (zeros n) ys ≡ ys
zeros-xor zero ys h = refl
zeros-xor (suc n) [] h = absurd (not-suc-le-zero h)
zeros-xor (suc n) (y ∷ ys) h = cons_same refl (zeros-xor n ys (le_of_suc-le-suc h))

pub xor-zeros : (xs : List ℕ) (n : ℕ) → n ≤ length xs → xor xs (zeros n) ≡ xs
xor-zeros xs n h = xor_comm xs (zeros n) ∙ zeros-xor n xs h

-- what is added twice is gone
pub xor_twice : (xs ys : List ℕ) → length xs ≤ length ys → xor xs (xor xs ys) ≡ ys
xor_twice xs ys h = sym (xor_assoc xs xs ys) ∙ ap (λ (z : List ℕ). xor z ys) (xor_self xs) ∙ zeros-xor (length xs) ys h

pub xor_back : (xs ys : List ℕ) → length ys ≤ length xs → xor (xor xs ys) ys ≡ xs
xor_back xs ys h = xor_assoc xs ys ys ∙ ap (xor xs) (xor_self ys) ∙ xor-zeros xs (length ys) h

pub xor_cancel : (a b c : List ℕ) → length c ≤ length a → length c ≤ length b → xor a c ≡ xor b c → a ≡ b
xor_cancel a b c p q e = sym (xor_back a c p) ∙ ap (λ u. xor u c) e ∙ xor_back b c q

pub binary-xor : (a b : List ℕ) → binary a ≡ true → binary b ≡ true → binary (xor a b) ≡ true
binary-xor [] b p q = q
binary-xor (x ∷ a) [] p q = p
binary-xor (x ∷ a) (y ∷ b) p q =
    let p2 = and_parts (nat_lt x 2) (binary a) p in
    let q2 = and_parts (nat_lt y 2) (binary b) q in
    and_from (nat_lt (bit_xor x y) 2) (binary (xor a b))
    (lt-ltb (bit_xor x y) 2 (xor_lt 1 x y (ltb-true x 2 p2.0) (ltb-true y 2 q2.0)))
    (binary-xor a b p2.1 q2.1)

pub xor_bits : (n : ℕ) (a b : List ℕ) → Bits n a → Bits n b → Bits n (xor a b)
xor_bits n a b p q = (length_xor_same a b (p.0 ∙ sym q.0) ∙ p.0, binary-xor a b p.1 q.1)

pub xor-append : (ws xs ys zs : List ℕ) → length ws ≡ length ys → xor (ws ++ xs) (ys ++ zs) ≡ xor ws ys ++ xor xs zs
xor-append [] xs [] zs e = refl
xor-append [] xs (y ∷ ys) zs e = absurd (omega arith)
xor-append (w ∷ ws) xs [] zs e = absurd (omega arith)
xor-append (w ∷ ws) xs (y ∷ ys) zs e = cons_same refl (xor-append ws xs ys zs (omega arith))

-- a loop that adds one place more
pub xor_more : (xs ys : List ℕ) (v : ℕ) → length ys < length xs
    → slice_set (xor xs ys) (length ys) (bit_xor (slice_index (xor xs ys) (length ys)) v) ≡ xor xs (ys ++ v ∷ [])
xor_more [] ys v h = absurd (not-suc-le-zero h)
xor_more (x ∷ xs) [] v h = cons_same refl (sym (xor_nil xs))
xor_more (x ∷ xs) (y ∷ ys) v h = cons_same refl (xor_more xs ys v (le_of_suc-le-suc h))

pub xor_counted : (f g : ℕ → ℕ) (a n : ℕ) → xor (map f (range_with_len a n)) (map g (range_with_len a n)) ≡ map (λ k. bit_xor (f k) (g k)) (range_with_len a n)
xor_counted f g a zero = refl
xor_counted f g a (suc n) = cons_same refl (xor_counted f g (a + 1) n)

-- a sum that is added to the front of a list
pub xor_front : (xs ys : List ℕ) → length ys ≤ length xs → xor (take (length ys) xs) ys ++ drop (length ys) xs ≡ xor xs ys
xor_front xs [] h = sym (xor_nil xs)
xor_front [] (y ∷ ys) h = absurd (not-suc-le-zero h)
xor_front (x ∷ xs) (y ∷ ys) h = cons_same refl (xor_front xs ys (le_of_suc-le-suc h))

-- and from the place a on
pub xor_middle : (a : ℕ) (xs ys : List ℕ) → a + length ys ≤ length xs
    → put_mid a (length ys) xs (xor (take (length ys) (drop a xs)) ys) ≡ xor xs (zeros a ++ ys)
xor_middle zero xs ys h = xor_front xs ys (omega arith)
xor_middle (suc a) [] ys h = absurd (omega arith)
xor_middle (suc a) (x ∷ xs) ys h = cons_same (sym (xor_zero_r x)) (xor_middle a xs ys (omega arith))
