-- Bits taken in a ring. Assumes nothing.
use Rattle.std.specs.Prelude.{◌≡◌, ℕ, ◌+◌, ◌-◌, ◌%◌, ◌<◌, ◌≤◌, ◌≢◌, zero, suc, List, length, take, drop, slice_index, slice_set, refl}
use Rattle.std.proofs.Common.{sym, ap, ◌∙◌, subst, mod-eq_of_lt, arith, get_or-set_same, get_or-set_other, below_more}
use Rattle.std.proofs.Math.Nat.{mod-le, add-mod_right}
use Rattle.std.proofs.lemmas.List.{ext_get_or, get_or-take, get_or-drop, take_all, length-drop, length-take-le}
use Rattle.std.proofs.lemmas.List.FromFn.{length-map-range_with_len, get_or-map-range_with_len}
use Rattle.std.proofs.lemmas.Nat.{mod_below}
use Rattle.stage.specs.Gather.{gathered, Within, Every}
use Rattle.stage.proofs.Gathering.{length-gathered, slice_index-gathered}
use Rattle.chain.specs.Selecting.{ring}

pub length-ring : (n e : ℕ) → length (ring n e) ≡ e
length-ring n e = length-map-range_with_len (λ k. k % n) 0 e

pub slice_index-ring : (n e k : ℕ) → k < e → slice_index (ring n e) k ≡ k % n
slice_index-ring n e k h = get_or-map-range_with_len (λ k. k % n) 0 e k k 0 h (omega arith)

pub ring-within : (n e : ℕ) → 0 < n → Within n (ring n e)
ring-within n e h k g = let l = length-ring n e in omega (arith, slice_index-ring n e k (omega arith), mod_below k n h)

pub ring-every : (n e : ℕ) → n ≤ e → Every n (ring n e)
ring-every n e h p g = let l = length-ring n e in (p, omega arith, slice_index-ring n e p (omega arith) ∙ mod-eq_of_lt g)

pub slice_index_selected : (n e : ℕ) (xs : List ℕ) (k : ℕ) → k < e → slice_index (gathered (ring n e) xs) k ≡ slice_index xs (k % n)
slice_index_selected n e xs k h =
    let l = length-ring n e in
    slice_index-gathered (ring n e) xs k (omega arith) ∙ ap (λ p. slice_index xs p) (slice_index-ring n e k h)

pub length_selected : (n e : ℕ) (xs : List ℕ) → length (gathered (ring n e) xs) ≡ e
length_selected n e xs = length-gathered (ring n e) xs ∙ length-ring n e

-- one time round
pub mod_once : (n k : ℕ) → n ≤ k → (k - n) % n ≡ k % n
mod_once n k h = let e : k - n + n ≡ k = omega arith in sym (add-mod_right (k - n) n) ∙ ap (λ (x : ℕ). x % n) e

-- each of the first k bits of ys is the one of xs in the ring
abbrev pub Ringed : ℕ → List ℕ → ℕ → List ℕ → Type 0
Ringed n xs k ys = (j : ℕ) → j < k → slice_index ys j ≡ slice_index xs (j % n)

pub ringed_none : (n : ℕ) (xs : List ℕ) → Ringed n xs n xs
ringed_none n xs j h = ap (λ i. slice_index xs i) (sym (mod-eq_of_lt h))

pub ringed_more : (n : ℕ) (xs ys : List ℕ) (k : ℕ) → 0 < n → n ≤ k → k < length ys → Ringed n xs k ys → Ringed n xs (k + 1) (slice_set ys k (slice_index ys (k - n)))
ringed_more n xs ys k pos low high h =
    below_more _ k
    (λ j l. let ne : j ≢ k = omega arith in rw get_or-set_other (h j l))
    (get_or-set_same ys k (slice_index ys (k - n)) 0 high ∙ h (k - n) (omega arith) ∙ ap (λ i. slice_index xs i) (mod_once n k low))

pub ringed_all : (n : ℕ) (xs ys : List ℕ) (k : ℕ) → length ys ≡ length xs → length xs ≤ k → Ringed n xs k ys → ys ≡ gathered (ring n (length xs)) xs
ringed_all n xs ys k l end h =
    let long = length_selected n (length xs) xs in
    ext_get_or 0 ys (gathered (ring n (length xs)) xs) (omega arith) (λ j i.
    h j (omega arith) ∙ sym (slice_index_selected n (length xs) xs j (omega arith)))

-- the same bits, looked at
pub ringed_kept : (n : ℕ) (xs : List ℕ) (k : ℕ) → 0 < n → n ≤ k → slice_index xs k ≡ slice_index xs (k - n) → Ringed n xs k xs → Ringed n xs (k + 1) xs
ringed_kept n xs k pos low e h =
    below_more _ k h (e ∙ h (k - n) (omega arith) ∙ ap (λ i. slice_index xs i) (mod_once n k low))

pub ringed_at : (n : ℕ) (xs : List ℕ) (k : ℕ) → 0 < n → n ≤ k → k < length xs → xs ≡ gathered (ring n (length xs)) xs → slice_index xs k ≡ slice_index xs (k - n)
ringed_at n xs k pos low high e =
    ap (λ ys. slice_index ys k) e ∙ slice_index_selected n (length xs) xs k high
    ∙ ap (λ i. slice_index xs i) (sym (mod_once n k low))
    ∙ sym (ap (λ ys. slice_index ys (k - n)) e ∙ slice_index_selected n (length xs) xs (k - n) (omega arith))

-- a list goes round where it is itself, n places on
module _ (n : ℕ) (xs : List ℕ) (pos : 0 < n) (low : n ≤ length xs) where
  pub ring_from_shift : take (length xs - n) (drop n xs) ≡ take (length xs - n) xs → xs ≡ gathered (ring n (length xs)) xs
  ring_from_shift e = ringed_all n xs xs (n + (length xs - n)) refl (omega arith) (go (length xs - n) (omega arith))
    where
      back : (i : ℕ) → n + i < length xs → slice_index xs (n + i) ≡ slice_index xs (n + i - n)
      back i h =
          sym (get_or-drop n xs i 0) ∙ sym (get_or-take (length xs - n) (drop n xs) i 0 (omega arith)) ∙ ap (λ ys. slice_index ys i) e
          ∙ get_or-take (length xs - n) xs i 0 (omega arith) ∙ ap (λ k. slice_index xs k) (omega arith)

      go : (i : ℕ) → n + i ≤ length xs → Ringed n xs (n + i) xs
      go zero h = subst (λ k. Ringed n xs k xs) (omega arith) (ringed_none n xs)
      go (suc i) h =
          subst (λ k. Ringed n xs k xs) (omega arith) (ringed_kept n xs (n + i) pos (omega arith) (back i (omega arith)) (go i (omega arith)))

  pub shift_from_ring : xs ≡ gathered (ring n (length xs)) xs → take (length xs - n) (drop n xs) ≡ take (length xs - n) xs
  shift_from_ring e =
      let m = length xs - n in
      let a : length (drop n xs) ≡ m = length-drop n xs in
      let b : length (take m xs) ≡ m = length-take-le m xs (omega arith) in
      take_all m (drop n xs) (omega arith)
      ∙ ext_get_or 0 (drop n xs) (take m xs) (a ∙ sym b) (λ k h.
      get_or-drop n xs k 0 ∙ ringed_at n xs (n + k) pos (omega arith) (omega arith) e ∙ ap (λ i. slice_index xs i) (omega arith)
      ∙ sym (get_or-take m xs k 0 (omega arith)))

-- what is taken in a ring goes round
pub ring_self : (n m : ℕ) (xs b : List ℕ) → 0 < n → gathered (ring n m) b ≡ xs → xs ≡ gathered (ring n m) xs
ring_self n m xs b pos e =
    let l : length xs ≡ m = ap length (sym e) ∙ length_selected n m b in
    let a = length_selected n m xs in
    ext_get_or 0 xs (gathered (ring n m) xs) (omega arith) (λ k h.
    let low : k < m = omega arith in
    let le = mod-le k n in
    let at : k % n < m = omega arith in
    ap (λ ys. slice_index ys k) (sym e) ∙ slice_index_selected n m b k low
    ∙ ap (λ i. slice_index b i) (sym (mod-eq_of_lt (mod_below k n pos)))
    ∙ sym (slice_index_selected n m b (k % n) at) ∙ ap (λ ys. slice_index ys (k % n)) e ∙ sym (slice_index_selected n m xs k low))
