-- Long division by D^k + p as the steps of a register, its remainder, and that there is only one. Assumes nothing.
use Rattle.std.specs.Prelude.{◌≡◌, ℕ, zero, suc, ◌+◌, ◌<◌, ◌≤◌, true, List, [], ◌∷◌, ◌++◌, length, bit_xor, refl}
use Rattle.std.proofs.Common.{sym, ap, ap₂, ◌∙◌, arith, length-append}
use Rattle.std.specs.Int.Bits.{xor_zero_r}
use Rattle.std.proofs.lemmas.Nat.{xor_comm as bit_comm, xor_lt}
use Rattle.std.proofs.lemmas.List.{length-replicate}
use Rattle.std.proofs.ByRecursion.{All-append}
use Rattle.stage.specs.Bits.{binary, xor, zeros}
use Rattle.stage.specs.Xors.{cons_same, xor_assoc, xor_medial, bit_medial, xor_self, zeros-xor, xor-zeros, xor_twice, xor-append, length-xor, length_xor_same, binary-xor}
use Rattle.stage.proofs.Binary.{Small, small_from, binary_small, binary-zeros}
use Rattle.check_bits.specs.Checking.{generator, scaled, product, divided, check_bits_of, CheckBitsStand, taken_in}

length-zeros : (n : ℕ) → length (zeros n) ≡ n
length-zeros n = length-replicate {A = ℕ} n 0

small_zeros : (n : ℕ) → Small (zeros n)
small_zeros n = small_from (zeros n) (binary-zeros n)

small_xor : (xs ys : List ℕ) → Small xs → Small ys → Small (xor xs ys)
small_xor xs ys p q = small_from (xor xs ys) (binary-xor xs ys (binary_small xs p) (binary_small ys q))

length-scaled : (c : ℕ) (p : List ℕ) → length (scaled c p) ≡ length p
length-scaled zero p = length-zeros (length p)
length-scaled (suc c) p = refl

small_scaled : (c : ℕ) (p : List ℕ) → Small p → Small (scaled c p)
small_scaled zero p h = small_zeros (length p)
small_scaled (suc c) p h = h

-- a zero behind a list adds nothing to a longer one
behind_zero : (t xs : List ℕ) → length t < length xs → xor (t ++ 0 ∷ []) xs ≡ xor t xs
behind_zero [] [] h = absurd (omega arith)
behind_zero [] (x ∷ xs) h = refl
behind_zero (t ∷ ts) [] h = absurd (omega arith)
behind_zero (t ∷ ts) (x ∷ xs) h = cons_same refl (behind_zero ts xs (omega arith))

-- one bit b into a register r that has as many bits as p
abbrev pub stepped : List ℕ → List ℕ → ℕ → List ℕ
stepped p [] b = []
stepped p (h ∷ t) b = xor (scaled (bit_xor h b) p) (t ++ 0 ∷ [])

-- the register after the bits of a list
abbrev pub register : List ℕ → List ℕ → List ℕ → List ℕ
register p r [] = r
register p r (b ∷ bs) = register p (stepped p r b) bs

length-stepped : (p r : List ℕ) (b : ℕ) → length r ≡ length p → length (stepped p r b) ≡ length p
length-stepped p [] b l = l
length-stepped p (h ∷ t) b l =
    length_xor_same (scaled (bit_xor h b) p) (t ++ 0 ∷ []) (length-scaled (bit_xor h b) p ∙ sym l ∙ omega (arith, length-append t (0 ∷ [])))
    ∙ length-scaled (bit_xor h b) p

length-register : (p r bs : List ℕ) → length r ≡ length p → length (register p r bs) ≡ length p
length-register p r [] l = l
length-register p r (b ∷ bs) l = length-register p (stepped p r b) bs (length-stepped p r b l)

-- what a step takes away from what is left
step_takes : (p t xs : List ℕ) (h b : ℕ) → length (h ∷ t) ≡ length p → length p ≤ length xs
    → xor (stepped p (h ∷ t) b) xs ≡ xor (scaled (bit_xor h b) p) (xor t xs)
step_takes p t xs h b l g =
    xor_assoc (scaled (bit_xor h b) p) (t ++ 0 ∷ []) xs ∙ ap (xor (scaled (bit_xor h b) p)) (behind_zero t xs (omega arith))

-- long division is the register's steps
divided_is : (p r bs : List ℕ) → length r ≡ length p → 0 < length p
    → divided (1 ∷ p) (length bs) (xor r (bs ++ zeros (length p))) ≡ register p r bs
divided_is p r [] l k = xor-zeros r (length p) (omega arith)
divided_is p [] (b ∷ bs) l k = absurd (omega arith)
divided_is p (h ∷ t) (b ∷ bs) l k =
    let z = bs ++ zeros (length p) in
    let lz : length p ≤ length z = omega (arith, length-append bs (zeros (length p)), length-zeros (length p)) in
    ap (divided (1 ∷ p) (length bs)) (sym (step_takes p t z h b l lz))
    ∙ divided_is p (stepped p (h ∷ t) b) bs (length-stepped p (h ∷ t) b l) k

-- ---- the remainder

small_stepped : (p r : List ℕ) (b : ℕ) → Small p → Small r → b < 2 → Small (stepped p r b)
small_stepped p [] b hp hr hb = tt
small_stepped p (h ∷ t) b hp hr hb =
    small_xor (scaled (bit_xor h b) p) (t ++ 0 ∷ []) (small_scaled (bit_xor h b) p hp) (All-append (λ x. x < 2) t (0 ∷ []) hr.1 (omega arith, tt))

small_register : (p r bs : List ℕ) → Small p → Small r → Small bs → Small (register p r bs)
small_register p r [] hp hr hb = hr
small_register p r (b ∷ bs) hp hr hb = small_register p (stepped p r b) bs hp (small_stepped p r b hp hr hb.0) hb.1

scaled_one : (c : ℕ) (p : List ℕ) → c < 2 → scaled c (1 ∷ p) ≡ c ∷ scaled c p
scaled_one zero p h = refl
scaled_one (suc zero) p h = refl
scaled_one (suc (suc c)) p h = absurd (omega arith)

length-product : (q p : List ℕ) → length (product q (1 ∷ p)) ≡ length q + length p
length-product [] p = length-zeros (length p) ∙ omega arith
length-product (c ∷ q) p =
    length-xor (scaled c (1 ∷ p)) (0 ∷ product q (1 ∷ p)) ∙ omega (arith, length-scaled c (1 ∷ p), length-product q p)

product_cons : (c : ℕ) (q p : List ℕ) → c < 2 → product (c ∷ q) (1 ∷ p) ≡ c ∷ xor (scaled c p) (product q (1 ∷ p))
product_cons c q p h = ap (λ (z : List ℕ). xor z (0 ∷ product q (1 ∷ p))) (scaled_one c p h) ∙ cons_same (xor_zero_r c) refl

abbrev quotient : List ℕ → List ℕ → List ℕ → List ℕ
quotient p r [] = []
quotient p [] (b ∷ bs) = []
quotient p (h ∷ t) (b ∷ bs) = bit_xor h b ∷ quotient p (stepped p (h ∷ t) b) bs

length-quotient : (p r bs : List ℕ) → length r ≡ length p → 0 < length p → length (quotient p r bs) ≡ length bs
length-quotient p r [] l k = refl
length-quotient p [] (b ∷ bs) l k = absurd (omega arith)
length-quotient p (h ∷ t) (b ∷ bs) l k = ap suc (length-quotient p (stepped p (h ∷ t) b) bs (length-stepped p (h ∷ t) b l) k)

small_quotient : (p r bs : List ℕ) → Small p → Small r → Small bs → Small (quotient p r bs)
small_quotient p r [] hp hr hb = tt
small_quotient p [] (b ∷ bs) hp hr hb = tt
small_quotient p (h ∷ t) (b ∷ bs) hp hr hb =
    (xor_lt 1 h b hr.0 hb.0, small_quotient p (stepped p (h ∷ t) b) bs hp (small_stepped p (h ∷ t) b hp hr hb.0) hb.1)

is_multiple : (p r bs : List ℕ) → length r ≡ length p → 0 < length p → Small p → Small r → Small bs
    → xor r (bs ++ register p r bs) ≡ product (quotient p r bs) (1 ∷ p)
is_multiple p r [] l k hp hr hb = xor_self r ∙ ap zeros l
is_multiple p [] (b ∷ bs) l k hp hr hb = absurd (omega arith)
is_multiple p (h ∷ t) (b ∷ bs) l k hp hr hb =
    let c = bit_xor h b in
    let r' = stepped p (h ∷ t) b in
    let x = bs ++ register p r' bs in
    let l' : length r' ≡ length p = length-stepped p (h ∷ t) b l in
    let lx : length p ≤ length x = omega (arith, length-append bs (register p r' bs), length-register p r' bs l') in
    let ls : length (scaled c p) ≤ length (xor t x) = omega (arith, length-scaled c p, length-xor t x) in
    sym (product_cons c (quotient p r' bs) p (xor_lt 1 h b hr.0 hb.0)
    ∙ ap (λ (z : List ℕ). c ∷ xor (scaled c p) z)
    (sym (is_multiple p r' bs l' k hp (small_stepped p (h ∷ t) b hp hr hb.0) hb.1) ∙ step_takes p t x h b l lx)
    ∙ cons_same refl (xor_twice (scaled c p) (xor t x) ls))

only_one : (p r bs s q : List ℕ) → length r ≡ length p → 0 < length p → length s ≡ length p → length q ≡ length bs → Small q
    → xor r (bs ++ s) ≡ product q (1 ∷ p) → s ≡ register p r bs
only_one p r [] s [] l k ls lq hq e =
    sym (xor_twice r s (omega arith)) ∙ ap (xor r) e ∙ xor-zeros r (length p) (omega arith)
only_one p r [] s (c ∷ q) l k ls lq hq e = absurd (omega arith)
only_one p [] (b ∷ bs) s q l k ls lq hq e = absurd (omega arith)
only_one p (h ∷ t) (b ∷ bs) s [] l k ls lq hq e = absurd (omega arith)
only_one p (h ∷ t) (b ∷ bs) s (c ∷ q) l k ls lq hq e =
    let e' : bit_xor h b ∷ xor t (bs ++ s) ≡ c ∷ xor (scaled c p) (product q (1 ∷ p)) = e ∙ product_cons c q p hq.0 in
    let head : bit_xor h b ≡ c = cc in
    let tail : xor t (bs ++ s) ≡ xor (scaled c p) (product q (1 ∷ p)) = cc in
    let lx : length p ≤ length (bs ++ s) = omega (arith, length-append bs s) in
    let lc : length (scaled c p) ≤ length (product q (1 ∷ p)) = omega (arith, length-scaled c p, length-product q p) in
    only_one p (stepped p (h ∷ t) b) bs s q (length-stepped p (h ∷ t) b l) k ls (omega arith) hq.1
    (step_takes p t (bs ++ s) h b l lx
    ∙ ap₂ (λ (x : ℕ) (y : List ℕ). xor (scaled x p) y) head tail
    ∙ xor_twice (scaled c p) (product q (1 ∷ p)) lc)

-- ---- at the generator

-- the generator's 24 coefficients below D^24
abbrev pub low : List ℕ
low = 1 ∷ 0 ∷ 0 ∷ 0 ∷ 0 ∷ 1 ∷ 1 ∷ 0 ∷ 0 ∷ 1 ∷ 0 ∷ 0 ∷ 1 ∷ 1 ∷ 0 ∷ 0 ∷ 1 ∷ 1 ∷ 1 ∷ 1 ∷ 1 ∷ 0 ∷ 1 ∷ 1 ∷ []

small_low : Small low
small_low = omega arith

pub check_bits_is : (b : List ℕ) → check_bits_of b ≡ register low (zeros 24) b
check_bits_is b =
    ap (divided generator (length b)) (sym (zeros-xor 24 (b ++ zeros 24) (omega (arith, length-append b (zeros 24)))))
    ∙ divided_is low (zeros 24) b refl (omega arith)

pub taken_in_is : (h : ℕ) (t : List ℕ) (b : ℕ) → taken_in (h ∷ t) b ≡ stepped low (h ∷ t) b
taken_in_is h t b = ap (λ (c : ℕ). xor (scaled c low) (t ++ 0 ∷ [])) (bit_comm b h)

pub length_check_bits : (b : List ℕ) → length (check_bits_of b) ≡ 24
length_check_bits b = ap length (check_bits_is b) ∙ length-register low (zeros 24) b refl

pub binary_check_bits : (b : List ℕ) → binary b ≡ true → binary (check_bits_of b) ≡ true
binary_check_bits b h =
    ap binary (check_bits_is b)
    ∙ binary_small (register low (zeros 24) b) (small_register low (zeros 24) b small_low (small_zeros 24) (small_from b h))

pub check_bits_stand : CheckBitsStand
unfolding CheckBitsStand
check_bits_stand = record {
  remainder = λ b h.
      (let z : List ℕ = zeros 24 in
      let small = small_from b h in
      let l : length (b ++ register low z b) ≡ length b + 24 = omega (arith, length-append b (register low z b), length-register low z b refl) in
      record {
        bits = (length_check_bits b, binary_check_bits b h);
        quotient = quotient low z b;
        quotient_bits = (length-quotient low z b refl (omega arith), binary_small (quotient low z b) (small_quotient low z b small_low (small_zeros 24) small));
        multiple = ap (λ (r : List ℕ). b ++ r) (check_bits_is b) ∙ sym (zeros-xor 24 (b ++ register low z b) (omega arith))
            ∙ is_multiple low z b refl (omega arith) small_low (small_zeros 24) small;
      });
  only = λ b r h.
      (only_one low (zeros 24) b r h.quotient refl (omega arith) h.bits.0 h.quotient_bits.0 (small_from h.quotient h.quotient_bits.1)
      (zeros-xor 24 (b ++ r) (omega (arith, length-append b r, h.bits.0)) ∙ h.multiple)
      ∙ sym (check_bits_is b));
}

-- ---- the exclusive-or of two blocks

scaled-xor : (c d : ℕ) (p : List ℕ) → c < 2 → d < 2 → scaled (bit_xor c d) p ≡ xor (scaled c p) (scaled d p)
scaled-xor zero d p hc hd = sym (zeros-xor (length p) (scaled d p) (omega (arith, length-scaled d p)))
scaled-xor (suc zero) zero p hc hd = sym (xor-zeros p (length p) (omega arith))
scaled-xor (suc zero) (suc zero) p hc hd = sym (xor_self p)
scaled-xor (suc zero) (suc (suc d)) p hc hd = absurd (omega arith)
scaled-xor (suc (suc c)) d p hc hd = absurd (omega arith)

stepped-xor : (p r s : List ℕ) (a b : ℕ) → length r ≡ length s → Small r → Small s → a < 2 → b < 2
    → stepped p (xor r s) (bit_xor a b) ≡ xor (stepped p r a) (stepped p s b)
stepped-xor p [] [] a b l hr hs ha hb = refl
stepped-xor p [] (s ∷ ss) a b l hr hs ha hb = absurd (omega arith)
stepped-xor p (r ∷ rs) [] a b l hr hs ha hb = absurd (omega arith)
stepped-xor p (r ∷ rs) (s ∷ ss) a b l hr hs ha hb =
    ap₂ xor
    (ap (λ (c : ℕ). scaled c p) (bit_medial r s a b) ∙ scaled-xor (bit_xor r a) (bit_xor s b) p (xor_lt 1 r a hr.0 ha) (xor_lt 1 s b hs.0 hb))
    (sym (xor-append rs (0 ∷ []) ss (0 ∷ []) (omega arith)))
    ∙ xor_medial (scaled (bit_xor r a) p) (scaled (bit_xor s b) p) (rs ++ 0 ∷ []) (ss ++ 0 ∷ [])

register-xor : (p r s a b : List ℕ) → length r ≡ length p → length s ≡ length p → length a ≡ length b
    → Small p → Small r → Small s → Small a → Small b
    → register p (xor r s) (xor a b) ≡ xor (register p r a) (register p s b)
register-xor p r s [] [] lr ls l hp hr hs ha hb = refl
register-xor p r s [] (b ∷ bs) lr ls l hp hr hs ha hb = absurd (omega arith)
register-xor p r s (a ∷ rest) [] lr ls l hp hr hs ha hb = absurd (omega arith)
register-xor p r s (a ∷ rest) (b ∷ bs) lr ls l hp hr hs ha hb =
    ap (λ (z : List ℕ). register p z (xor rest bs)) (stepped-xor p r s a b (lr ∙ sym ls) hr hs ha.0 hb.0)
    ∙ register-xor p (stepped p r a) (stepped p s b) rest bs (length-stepped p r a lr) (length-stepped p s b ls) (omega arith)
    hp (small_stepped p r a hp hr ha.0) (small_stepped p s b hp hs hb.0) ha.1 hb.1

pub check_bits_xor : (a b : List ℕ) → length a ≡ length b → binary a ≡ true → binary b ≡ true
    → check_bits_of (xor a b) ≡ xor (check_bits_of a) (check_bits_of b)
check_bits_xor a b l ha hb =
    let z : List ℕ = zeros 24 in
    check_bits_is (xor a b)
    ∙ ap (λ (v : List ℕ). register low v (xor a b)) (sym (xor_self z))
    ∙ register-xor low z z a b refl refl l small_low (small_zeros 24) (small_zeros 24) (small_from a ha) (small_from b hb)
    ∙ ap₂ xor (sym (check_bits_is a)) (sym (check_bits_is b))
