-- A window that moves over its sequence.
use Rattle.std.proofs.Common.{◌≡◌, ℕ, zero, suc, ◌+◌, ◌*◌, ◌/◌, ◌%◌, ◌^◌, ◌<◌, sym, refl, ap, ◌∙◌, add_comm, suc-add, zero-add, arith}
use Rattle.std.proofs.lemmas.Nat.{shr_split}
use Rattle.std.proofs.lemmas.Nat.Bits.{bit_at-suc, bit_at_cat_low}
use Rattle.gold.specs.Sequence.{bit, fresh₁, fresh₂, shifted, window}

pub window_none : (f : ℕ → ℕ) (w : ℕ) → window f w 0 ≡ w
unfolding window
window_none f w = refl

pub window_suc : (f : ℕ → ℕ) (w i : ℕ) → window f w (suc i) ≡ window f (shifted f w) i
unfolding window
window_suc f w i = refl

pub window_add : (f : ℕ → ℕ) (w i j : ℕ) → window f w (i + j) ≡ window f (window f w i) j
unfolding window
window_add f w zero j = ap (window f w) (zero-add j)
window_add f w (suc i) j = ap (window f w) (suc-add i j) ∙ window_add f (shifted f w) i j

module _ (f : ℕ → ℕ) (below : (w : ℕ) → f w < 2) where
  bit_shifted : (w j : ℕ) → j < 30 → bit (shifted f w) j ≡ bit w (suc j)
  bit_shifted w j h =
      let low = w / 2 % 2 ^ 30 in
      ap (λ v. bit v j) (add_comm low (f w * 2 ^ 30)) ∙ bit_at_cat_low (f w) 30 low j h
      ∙ sym (bit_at_cat_low (w / 2 / 2 ^ 30) 30 low j h) ∙ ap (λ v. bit v j) (shr_split (w / 2) 30) ∙ sym (bit_at-suc w j)

  -- the sequence begins with the bits of its window
  pub bit-window : (j w : ℕ) → j < 31 → bit (window f w j) 0 ≡ bit w j
  bit-window zero w h = ap (λ v. bit v 0) (window_none f w)
  bit-window (suc j) w h =
      ap (λ v. bit v 0) (window_suc f w j) ∙ (bit-window j (shifted f w) (omega arith) ∙ bit_shifted w j (omega arith))

  pub bit_past : (w i j : ℕ) → j < 31 → bit (window f w (i + j)) 0 ≡ bit (window f w i) j
  bit_past w i j h = ap (λ v. bit v 0) (window_add f w i j) ∙ bit-window j (window f w i) h

  -- and goes on with the bit that follows it
  pub bit_next : (w i : ℕ) → bit (window f w (i + 31)) 0 ≡ f (window f w i)
  bit_next w i =
      let v = window f w i in
      let b = below v in
      let e : bit (shifted f v) 30 ≡ f v = omega arith in
      ap (λ u. bit u 0) (window_add f w i 31 ∙ window_suc f v 30) ∙ (bit-window 30 (shifted f v) (omega arith) ∙ e)

pub below₁ : (w : ℕ) → fresh₁ w < 2
below₁ w = omega arith

pub below₂ : (w : ℕ) → fresh₂ w < 2
below₂ w = omega arith
