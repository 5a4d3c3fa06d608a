-- The register of 24 bits as a number. Assumes nothing.
use Rattle.std.proofs.Common.{◌≡◌, ℕ, zero, suc, ◌-◌, ◌*◌, ◌/◌, ◌%◌, ◌^◌, ◌<◌, ◌≤◌, ◌≢◌, true, ltb, List, [], ◌∷◌, ◌++◌, map, get_or, sym, refl, ap, ◌∙◌, ap₂, mod-eq_of_lt, arith, length-append}
use Rattle.std.proofs.lemmas.List.FromFn.{get_or-map-range_with_len}
use Rattle.std.proofs.lemmas.Bool.{and_parts, ltb-true}
use Rattle.std.proofs.lemmas.List.Folds.{list_all-append}
use lib.Bits.{bit_and, bit_xor}
use Rattle.std.specs.List.{range_with_len}
use Rattle.std.proofs.lemmas.Nat.{xor_shr, xor_mod, shl-shr, shr_split, and_mask}
use Rattle.std.proofs.lemmas.Nat.Bits.{bit_at-suc, bit_at_cat_low}
use Rattle.stage.specs.Bits.{binary, xor, zeros}
use Rattle.stage.specs.Xors.{cons_same, xor_comm, zeros-xor}
use Rattle.check_bits.specs.Checking.{scaled, check_bits_of, taken_in, to_bits}
use Rattle.check_bits.specs.Division.{low, register, stepped, check_bits_is, taken_in_is}

to_bits_xor : (k x y : ℕ) → to_bits k (bit_xor x y) ≡ xor (to_bits k x) (to_bits k y)
unfolding to_bits
to_bits_xor zero x y = refl
to_bits_xor (suc k) x y =
    cons_same (ap (λ (z : ℕ). z % 2) (xor_shr x y k) ∙ xor_mod (x / 2 ^ k) (y / 2 ^ k) 1) (to_bits_xor k x y)

to_bits_double : (k x : ℕ) → to_bits (suc k) (x * 2) ≡ to_bits k x ++ 0 ∷ []
unfolding to_bits
to_bits_double zero x = cons_same (omega arith) refl
to_bits_double (suc k) x =
    cons_same (bit_at-suc (x * 2) k ∙ ap (λ (z : ℕ). z / 2 ^ k % 2) (shl-shr x 1)) (to_bits_double k x)

bit_mask : (x j k : ℕ) → j < k → x % 2 ^ k / 2 ^ j % 2 ≡ x / 2 ^ j % 2
bit_mask x j k h = sym (bit_at_cat_low (x / 2 ^ k) k (x % 2 ^ k) j h) ∙ ap (λ (z : ℕ). z / 2 ^ j % 2) (shr_split x k)

to_bits_mask : (m k x : ℕ) → m ≤ k → to_bits m (x % 2 ^ k) ≡ to_bits m x
unfolding to_bits
to_bits_mask zero k x h = refl
to_bits_mask (suc m) k x h = cons_same (bit_mask x m k h) (to_bits_mask m k x (omega arith))

generator_number : to_bits 24 0x864cfb ≡ low
unfolding to_bits
generator_number = refl

-- a step of the register, as the code has it
shifted : (x : ℕ) → to_bits 24 (x * 2 ^ 1 % 2 ^ 32) ≡ to_bits 23 x ++ 0 ∷ []
shifted x = to_bits_mask 24 32 (x * 2) (omega arith) ∙ to_bits_double 23 x

module _ (x b : ℕ) (is_bit : b < 2) where
  taken : (t : ℕ) → bit_and (bit_xor (x / 2 ^ 23) b) 1 ≡ t → xor (scaled t low) (to_bits 23 x ++ 0 ∷ []) ≡ taken_in (to_bits 24 x) b
  unfolding to_bits
  taken t e =
      let top : bit_xor (x / 2 ^ 23 % 2) b ≡ t =
      ap (bit_xor (x / 2 ^ 23 % 2)) (sym (mod-eq_of_lt is_bit)) ∙ sym (xor_mod (x / 2 ^ 23) b 1) ∙ sym (and_mask (bit_xor (x / 2 ^ 23) b) 1) ∙ e in
      ap (λ (z : ℕ). xor (scaled z low) (to_bits 23 x ++ 0 ∷ [])) (sym top) ∙ sym (taken_in_is (x / 2 ^ 23 % 2) (to_bits 23 x) b)

  pub step_none : (bit_and (bit_xor (x / 2 ^ 23) b) 1 ≢ 1) → to_bits 24 (x * 2 ^ 1 % 2 ^ 32) ≡ taken_in (to_bits 24 x) b
  unfolding to_bits
  step_none ne =
      shifted x ∙ sym (zeros-xor 24 (to_bits 23 x ++ 0 ∷ []) (omega (arith, length-append (to_bits 23 x) (0 ∷ []))))
      ∙ taken 0 (omega (arith, and_mask (bit_xor (x / 2 ^ 23) b) 1))

  pub step_one : bit_and (bit_xor (x / 2 ^ 23) b) 1 ≡ 1 → to_bits 24 (bit_xor (x * 2 ^ 1 % 2 ^ 32) 0x864cfb) ≡ taken_in (to_bits 24 x) b
  step_one e =
      to_bits_xor 24 (x * 2 ^ 1 % 2 ^ 32) 0x864cfb ∙ ap₂ xor (shifted x) generator_number ∙ xor_comm (to_bits 23 x ++ 0 ∷ []) low ∙ taken 1 e

register_push : (p r bs : List ℕ) (b : ℕ) → register p r (bs ++ b ∷ []) ≡ stepped p (register p r bs) b
register_push p r [] b = refl
register_push p r (x ∷ bs) b = register_push p (stepped p r x) bs b

-- the register after the bits of a list, and after one bit more
unfoldable pub Registered : List ℕ → ℕ → Type 0
Registered block x = binary block ≡ true → to_bits 24 x ≡ check_bits_of block

pub registered_none : Registered [] 0
unfolding Registered to_bits
registered_none _ = refl

pub registered_more : (block : List ℕ) (x b y : ℕ) → (b < 2 → to_bits 24 y ≡ taken_in (to_bits 24 x) b)
    → Registered block x → Registered (block ++ b ∷ []) y
unfolding Registered to_bits
registered_more block x b y step h bits =
    let p = and_parts (binary block) (binary (b ∷ [])) (sym (list_all-append (λ z. ltb z 2) block (b ∷ [])) ∙ bits) in
    step (ltb-true b 2 (and_parts (ltb b 2) true p.1).0) ∙ taken_in_is (x / 2 ^ 23 % 2) (to_bits 23 x) b
    ∙ ap (λ (r : List ℕ). stepped low r b) (h p.0 ∙ check_bits_is block)
    ∙ sym (register_push low (zeros 24) block b) ∙ sym (check_bits_is (block ++ b ∷ []))

-- the bits of a number, by place
pub to_bits_places : (x : ℕ) → map (λ k. x / 2 ^ (23 - k) % 2) (range_with_len 0 24) ≡ to_bits 24 x
unfolding to_bits
to_bits_places x = refl

pub slice_index_to_bits : (x k : ℕ) → k < 24 → get_or (to_bits 24 x) k 0 ≡ x / 2 ^ (23 - k) % 2
slice_index_to_bits x k h =
    ap (λ (z : List ℕ). get_or z k 0) (sym (to_bits_places x)) ∙ get_or-map-range_with_len (λ k. x / 2 ^ (23 - k) % 2) 0 24 k k 0 h (omega arith)
