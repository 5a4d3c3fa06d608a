-- The two sequences are those of the standard.
use Rattle.std.proofs.Common.{◌≡◌, ℕ, zero, suc, ◌+◌, ◌-◌, ◌%◌, ◌<◌, ◌≤◌, sym, refl, ap, ◌∙◌, ⊎_elim, add-one, below_more, arith}
use Rattle.std.proofs.lemmas.Bool.{cases_lt}
use Rattle.std.proofs.lemmas.Nat.Bits.{bit_at_above}
use Rattle.gold.specs.Sequence.{FirstSequence, SecondSequence, MeetsStandard, bit, fresh₁, fresh₂, x₁, x₂, gold}
use Rattle.gold.proofs.Window.{window_none, bit-window, bit_past, bit_next, below₁, below₂}

pub first_stands : FirstSequence x₁
unfolding x₁
first_stands =
    record {
      one = ap (λ v. bit v 0) (window_none fresh₁ 1);
      zeros = λ i p h. bit-window fresh₁ below₁ i 1 h ∙ bit_at_above 1 1 i (omega arith) (omega arith);
      next = λ i.
          let a = bit_past fresh₁ below₁ 1 i 3 (omega arith) in
          bit_next fresh₁ below₁ 1 i ∙ omega arith;
    }

pub second_stands : (seed : ℕ) → SecondSequence seed (x₂ seed)
unfolding x₂
second_stands seed =
    record {
      start = λ i h. bit-window fresh₂ below₂ i seed h;
      next = λ i.
          let a = bit_past fresh₂ below₂ seed i 3 (omega arith) in
          let b = bit_past fresh₂ below₂ seed i 2 (omega arith) in
          let c = bit_past fresh₂ below₂ seed i 1 (omega arith) in
          bit_next fresh₂ below₂ seed i ∙ omega arith;
    }

-- two sequences with one start and one recurrence are equal
module _ (r : ℕ → ℕ → ℕ → ℕ → ℕ) (x y : ℕ → ℕ) (start : (i : ℕ) → i < 31 → x i ≡ y i)
    (nx : (i : ℕ) → x (i + 31) ≡ r (x (i + 3)) (x (i + 2)) (x (i + 1)) (x i))
    (ny : (i : ℕ) → y (i + 31) ≡ r (y (i + 3)) (y (i + 2)) (y (i + 1)) (y i)) where
  agree_at : (n : ℕ) → ((i : ℕ) → i < n → x i ≡ y i) → x n ≡ y n
  agree_at n h = ⊎_elim (start n) past (cases_lt n 31)
    where
      past : 31 ≤ n → x n ≡ y n
      past g =
          let m = n - 31 in
          let e : n ≡ m + 31 = omega arith in
          let a = h (m + 3) (omega arith) in
          let b = h (m + 2) (omega arith) in
          let c = h (m + 1) (omega arith) in
          let d = h m (omega arith) in
          ap x e ∙ (nx m ∙ ((cc) ∙ (sym (ny m) ∙ ap y (sym e))))

  agree_below : (n i : ℕ) → i < n → x i ≡ y i
  agree_below zero = λ i h. absurd (omega arith)
  agree_below (suc n) = simp add-one at (below_more (λ i. x i ≡ y i) n (agree_below n) (agree_at n (agree_below n)))

  pub agree : (i : ℕ) → x i ≡ y i
  agree i = agree_below (i + 1) i (omega arith)

pub first_only : (x : ℕ → ℕ) → FirstSequence x → (i : ℕ) → x i ≡ x₁ i
first_only x p =
    agree (λ a b c d. (a + d) % 2) x x₁ start p.next first_stands.next
  where
    start : (i : ℕ) → i < 31 → x i ≡ x₁ i
    start zero h = p.one ∙ sym first_stands.one
    start (suc i) h = p.zeros (suc i) (omega arith) h ∙ sym (first_stands.zeros (suc i) (omega arith) h)

pub second_only : (seed : ℕ) (x : ℕ → ℕ) → SecondSequence seed x → (i : ℕ) → x i ≡ x₂ seed i
second_only seed x p =
    agree (λ a b c d. (a + b + c + d) % 2) x (x₂ seed)
    (λ i h. p.start i h ∙ sym ((second_stands seed).start i h)) p.next (second_stands seed).next

pub standard : MeetsStandard
unfolding MeetsStandard gold
standard =
    record {
      first = first_stands;
      only_first = first_only;
      second = second_stands;
      only_second = second_only;
      sum = λ seed i. refl;
    }
