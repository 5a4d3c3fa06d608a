-- Taps that act on a sequence of bits: at k they take the exclusive-or of f (k + m * t), over each tap t. A product of polynomials acts as
-- the one after the other, and a tap that stands twice is gone. Assumes nothing.
use Rattle.std.specs.Prelude.{◌≡◌, ℕ, ◌+◌, ◌*◌, cond, List, [], ◌∷◌, ◌++◌, map, ◌==◌, bit_xor, refl}
use Rattle.std.proofs.Common.{sym, ap, ap₂, ◌∙◌, mul-add, mul-zero, arith}
use Rattle.std.specs.Int.Bits.{xor_zero_r, xor_assoc, xor_self}
use Rattle.std.proofs.lemmas.Nat.{xor_comm}
use Rattle.std.proofs.lemmas.Bool.{cond_both, eqb-true}
use Rattle.tail_biting.specs.Coding.{taps_of, undo0, undo2}

bit_swap : (x y z : ℕ) → bit_xor x (bit_xor y z) ≡ bit_xor y (bit_xor x z)
bit_swap x y z = sym (xor_assoc x y z) ∙ ap (λ (v : ℕ). bit_xor v z) (xor_comm x y) ∙ xor_assoc y x z

bit_twice : (x y : ℕ) → bit_xor x (bit_xor x y) ≡ y
bit_twice x y = sym (xor_assoc x x y) ∙ ap (λ (v : ℕ). bit_xor v y) (xor_self x)

abbrev pub sums : (ℕ → ℕ) → ℕ → List ℕ → ℕ → ℕ
sums f m [] k = 0
sums f m (t ∷ ts) k = bit_xor (f (k + m * t)) (sums f m ts k)

pub sums_same : (f g : ℕ → ℕ) (m : ℕ) (ts : List ℕ) (k : ℕ) → ((j : ℕ) → f j ≡ g j) → sums f m ts k ≡ sums g m ts k
sums_same f g m [] k e = refl
sums_same f g m (t ∷ ts) k e = ap₂ bit_xor (e (k + m * t)) (sums_same f g m ts k e)

pub sums-append : (f : ℕ → ℕ) (m : ℕ) (ts us : List ℕ) (k : ℕ) → sums f m (ts ++ us) k ≡ bit_xor (sums f m ts k) (sums f m us k)
sums-append f m [] us k = refl
sums-append f m (t ∷ ts) us k =
    ap (bit_xor (f (k + m * t))) (sums-append f m ts us k) ∙ sym (xor_assoc (f (k + m * t)) (sums f m ts k) (sums f m us k))

pub sums_shift : (f : ℕ → ℕ) (m t : ℕ) (us : List ℕ) (k : ℕ) → sums f m (map (λ u. t + u) us) k ≡ sums f m us (k + m * t)
sums_shift f m t [] k = refl
sums_shift f m t (u ∷ us) k =
    let e : k + m * (t + u) ≡ k + m * t + m * u = omega (arith, mul-add m t u) in
    ap₂ bit_xor (ap f e) (sums_shift f m t us k)

-- the product of two polynomials, by their powers
abbrev pub times : List ℕ → List ℕ → List ℕ
times [] us = []
times (t ∷ ts) us = map (λ u. t + u) us ++ times ts us

pub sums-times : (f : ℕ → ℕ) (m : ℕ) (ts us : List ℕ) (k : ℕ) → sums f m (times ts us) k ≡ sums (sums f m us) m ts k
sums-times f m [] us k = refl
sums-times f m (t ∷ ts) us k =
    sums-append f m (map (λ u. t + u) us) (times ts us) k ∙ ap₂ bit_xor (sums_shift f m t us k) (sums-times f m ts us k)

-- the powers that are left where equal ones cancel
abbrev pub toggle : ℕ → List ℕ → List ℕ
toggle t [] = t ∷ []
toggle t (u ∷ us) = cond (t == u) us (u ∷ toggle t us)

abbrev pub reduced : List ℕ → List ℕ
reduced [] = []
reduced (t ∷ ts) = toggle t (reduced ts)

pub sums-toggle : (f : ℕ → ℕ) (m t : ℕ) (us : List ℕ) (k : ℕ) → sums f m (toggle t us) k ≡ bit_xor (f (k + m * t)) (sums f m us k)
sums-toggle f m t [] k = refl
sums-toggle f m t (u ∷ us) k =
    cond_both (t == u) us (u ∷ toggle t us) (λ z. sums f m z k ≡ bit_xor (f (k + m * t)) (sums f m (u ∷ us) k))
    (λ e. sym (ap (λ (v : ℕ). bit_xor (f (k + m * v)) (sums f m (u ∷ us) k)) (eqb-true t u e) ∙ bit_twice (f (k + m * u)) (sums f m us k)))
    (λ e. ap (bit_xor (f (k + m * u))) (sums-toggle f m t us k) ∙ bit_swap (f (k + m * u)) (f (k + m * t)) (sums f m us k))

pub sums-reduced : (f : ℕ → ℕ) (m : ℕ) (ts : List ℕ) (k : ℕ) → sums f m (reduced ts) k ≡ sums f m ts k
sums-reduced f m [] k = refl
sums-reduced f m (t ∷ ts) k = sums-toggle f m t (reduced ts) k ∙ ap (bit_xor (f (k + m * t))) (sums-reduced f m ts k)

-- undo0 * stream 0 + undo2 * stream 2 = 1
pub bezout : reduced (times undo0 (taps_of 0) ++ times undo2 (taps_of 2)) ≡ 0 ∷ []
bezout = refl

pub sums_undone : (f : ℕ → ℕ) (m k : ℕ) → bit_xor (sums (sums f m (taps_of 0)) m undo0 k) (sums (sums f m (taps_of 2)) m undo2 k) ≡ f k
sums_undone f m k =
    ap₂ bit_xor (sym (sums-times f m undo0 (taps_of 0) k)) (sym (sums-times f m undo2 (taps_of 2) k))
    ∙ sym (sums-append f m (times undo0 (taps_of 0)) (times undo2 (taps_of 2)) k)
    ∙ sym (sums-reduced f m (times undo0 (taps_of 0) ++ times undo2 (taps_of 2)) k)
    ∙ ap (λ (ts : List ℕ). sums f m ts k) bezout
    ∙ xor_zero_r (f (k + m * 0))
    ∙ ap f (omega (arith, mul-zero m))
