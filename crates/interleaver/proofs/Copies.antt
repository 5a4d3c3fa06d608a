-- A bit of each of three streams copied to another place of each, again and again. Assumes nothing.
use Rattle.std.proofs.Common.{◌≡◌, ℕ, zero, suc, ◌+◌, ◌*◌, ◌<◌, ◌≤◌, ◌≢◌, List, length, get_or, set, ◌∙◌, one-mul, zero-mul, arith, below_more}
use Rattle.std.proofs.lemmas.Grind.{common_steps}

three : (P : ℕ → Type 0) → P 0 → P 1 → P 2 → (s : ℕ) → s < 3 → P s
three P a b c zero h = a
three P a b c (suc zero) h = b
three P a b c (suc (suc zero)) h = c
three P a b c (suc (suc (suc s))) h = absurd (omega arith)

-- bit p of each stream, copied to bit k
abbrev pub moved : ℕ → List ℕ → ℕ → List ℕ → ℕ → List ℕ
moved d xs p ys k = set (set (set ys k (get_or xs p 0)) (d + k) (get_or xs (d + p) 0)) (2 * d + k) (get_or xs (2 * d + p) 0)

module _ (d : ℕ) (xs : List ℕ) (p : ℕ) (ys : List ℕ) (k : ℕ) (low : k < d) where
  moved_else : (j : ℕ) → j < d → j ≢ k → (s : ℕ) → s < 3 → get_or (moved d xs p ys k) (s * d + j) 0 ≡ get_or ys (s * d + j) 0
  moved_else j h ne =
      three (λ s. get_or (moved d xs p ys k) (s * d + j) 0 ≡ get_or ys (s * d + j) 0)
      (rw zero-mul (grind (arith, common_steps))) (rw one-mul (grind (arith, common_steps))) (grind (arith, common_steps))

  moved_here : 3 * d ≤ length ys → (s : ℕ) → s < 3 → get_or (moved d xs p ys k) (s * d + k) 0 ≡ get_or xs (s * d + p) 0
  moved_here long =
      three (λ s. get_or (moved d xs p ys k) (s * d + k) 0 ≡ get_or xs (s * d + p) 0)
      (rw zero-mul (grind (arith, common_steps))) (rw one-mul (grind (arith, common_steps))) (grind (arith, common_steps))

-- of each stream, bit g j stands at bit f j, for each j below k
abbrev pub Copied : ℕ → (ℕ → ℕ) → (ℕ → ℕ) → List ℕ → List ℕ → ℕ → Type 0
Copied d f g xs ys k = (s j : ℕ) → s < 3 → j < k → get_or ys (s * d + f j) 0 ≡ get_or xs (s * d + g j) 0

pub copied_more : (d : ℕ) (f g : ℕ → ℕ) (xs ys : List ℕ) (k : ℕ) → ((j : ℕ) → j < d → f j < d)
    → ((i j : ℕ) → i < d → j < d → f i ≡ f j → i ≡ j) → 3 * d ≤ length ys → k < d
    → Copied d f g xs ys k → Copied d f g xs (moved d xs (g k) ys (f k)) (k + 1)
copied_more d f g xs ys k below once long h done s j hs =
    below_more (λ j. get_or (moved d xs (g k) ys (f k)) (s * d + f j) 0 ≡ get_or xs (s * d + g j) 0) k
    (λ j i.
    moved_else d xs (g k) ys (f k) (below k h) (f j) (below j (omega arith))
    (λ e. omega (arith, once j k (omega arith) h e)) s hs
    ∙ done s j hs i)
    (moved_here d xs (g k) ys (f k) (below k h) long s hs) j
