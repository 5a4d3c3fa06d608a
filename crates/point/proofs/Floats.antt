-- Floats that compare equal to a coordinate, and those that do not.
use Rattle.std.proofs.Common.{◌≡◌, ℕ, ◌+◌, ◌-◌, ◌*◌, ◌/◌, ◌^◌, Bool, true, false, cond, T, pos, negsuc, Some, None, sym, refl, ap, ◌∙◌, inl, inr, mul-div_cancel, arith, rules}
use mathlib.Core.Bool.{beq}
use lib.Ieee.{Float, Format, nan, inf, fin, binary32, up, down, low, neg, odd, of_bits, of_fields, to_bits, eq, fits, size, prec, hid, top}
use lib.Count.{count_trailing_zeros}
use lib.Ieee.Fits.{down_pos}
use lib.Ieee.Bits.{of_bits-to_bits}
use lib.Ieee.Exact.{HasValue}
use Rattle.std.proofs.lemmas.Bool.{false≢true, eqb-true, and_parts, or_cases}
use Rattle.std.proofs.lemmas.Bool.Decides.{nat_tests}
use Rattle.point.specs.Coordinates.{float_side, float_bit}

bits_of_value : (f : Format) (x : Float) (s : Bool) (a : ℕ) → HasValue x s a (2 ^ low f)
    → to_bits f x ≡ cond s (top f) 0 + (size a - prec f) * hid f + a / 2 ^ (size a - prec f)
unfolding to_bits
bits_of_value f nan s a v = absurd v
bits_of_value f (inf t) s a v = absurd v
bits_of_value f (fin t m e) s a v =
    let n : m * up e * 2 ^ low f / down e ≡ a = ap (λ (k : ℕ). k / down e) v.1 ∙ mul-div_cancel a (down_pos e) in
    λ i. cond (v.0 i) (top f) 0 + (size (n i) - prec f) * hid f + n i / 2 ^ (size (n i) - prec f)

-- two floats of a format with one value are one float
same_value : (f : Format) (x y : Float) (s : Bool) (a : ℕ) → T (fits f x) → T (fits f y) → HasValue x s a (2 ^ low f) → HasValue y s a (2 ^ low f) → x ≡ y
same_value f x y s a p q v w = sym (of_bits-to_bits f x p) ∙ ap (of_bits f) (bits_of_value f x s a v ∙ sym (bits_of_value f y s a w)) ∙ of_bits-to_bits f y q

side_fits : (b : Bool) → T (fits binary32 (float_side b))
unfolding fits
side_fits b = tt

-- a float of the format that compares equal to a coordinate is that coordinate
is_side : (b : Bool) (x : Float) → T (fits binary32 x) → eq x (float_side b) ≡ true → x ≡ float_side b
unfolding eq
is_side b nan f e = absurd (false≢true e)
is_side b (inf t) f e = absurd (false≢true e)
is_side b (fin t m k) f e =
    let p = and_parts _ _ e in
    let v : m * up k * 256 ≡ 181 * down k = eqb-true _ _ p.0 in
    let low = down_pos k in
    let n : t ≡ b = elim (or_cases _ _ p.1) [ inl h ↦ (let r : beq t b ≡ true = h in search rules) | inr h ↦ absurd (let z = eqb-true _ _ h in omega arith) ] in
    same_value binary32 (fin t m k) (float_side b) b (181 * 2 ^ 141) f (side_fits b) (n, omega arith) (refl, refl)

none_side : (x : Float) → eq x (float_side false) ≡ false → eq x (float_side true) ≡ false → None ≡ float_bit x
unfolding eq
none_side nan u v = refl
none_side (inf s) u v = refl
none_side (fin s m (pos k)) u v = refl
none_side (fin s m (negsuc k)) u v = grind (arith, nat_tests)

-- the literals of the code
abbrev level : Float
level = of_bits binary32 0x3f35_0000

pub plus : level ≡ float_side false
unfolding of_bits of_fields odd count_trailing_zeros
plus = refl

pub minus : neg level ≡ float_side true
unfolding of_bits of_fields odd count_trailing_zeros neg
minus = refl

pub nought : of_bits binary32 0 ≡ fin false 0 (pos 0)
unfolding of_bits of_fields odd count_trailing_zeros
nought = refl

module _ (x : Float) where
  pub plus_bit : T (fits binary32 x) → eq x level ≡ true → Some false ≡ float_bit x
  plus_bit f t = sym (ap float_bit (is_side false x f (ap (eq x) (sym plus) ∙ t)))

  pub minus_bit : T (fits binary32 x) → eq x (neg level) ≡ true → Some true ≡ float_bit x
  minus_bit f t = sym (ap float_bit (is_side true x f (ap (eq x) (sym minus) ∙ t)))

  pub no_bit : eq x level ≡ false → eq x (neg level) ≡ false → None ≡ float_bit x
  no_bit u v = none_side x (ap (eq x) (sym plus) ∙ u) (ap (eq x) (sym minus) ∙ v)
