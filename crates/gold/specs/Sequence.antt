-- The pseudo-random sequence c of TS 36.211, section 7.2: a Gold sequence of length 31. Assumes nothing.
use Rattle.std.specs.Prelude.{◌≡◌, ℕ, zero, suc, ◌+◌, ◌*◌, ◌/◌, ◌%◌, ◌^◌, ◌<◌, List, map}
use Rattle.std.specs.List.{range_with_len}

-- bit j of a number, bit 0 being the lowest
abbrev pub bit : ℕ → ℕ → ℕ
bit n j = n / 2 ^ j % 2

-- the first sequence: a 1, thirty zeros, and then by its recurrence
pub record FirstSequence (x : ℕ → ℕ) : Type 0 where
  pub one : x 0 ≡ 1
  pub zeros : (i : ℕ) → 0 < i → i < 31 → x i ≡ 0
  pub next : (i : ℕ) → x (i + 31) ≡ (x (i + 3) + x i) % 2

-- the second sequence: the 31 bits of the seed, lowest first, and then by its recurrence
pub record SecondSequence (seed : ℕ) (x : ℕ → ℕ) : Type 0 where
  pub start : (i : ℕ) → i < 31 → x i ≡ bit seed i
  pub next : (i : ℕ) → x (i + 31) ≡ (x (i + 3) + x (i + 2) + x (i + 1) + x i) % 2

-- x₁, and x₂ and c of every seed, are the standard's: x₁ and x₂ are the only such sequences, and c is their sum modulo 2 from place 1,600 on
pub record Standard (x₁ : ℕ → ℕ) (x₂ c : ℕ → ℕ → ℕ) : Type 0 where
  pub first : FirstSequence x₁
  pub only_first : (x : ℕ → ℕ) → FirstSequence x → (i : ℕ) → x i ≡ x₁ i
  pub second : (seed : ℕ) → SecondSequence seed (x₂ seed)
  pub only_second : (seed : ℕ) (x : ℕ → ℕ) → SecondSequence seed x → (i : ℕ) → x i ≡ x₂ seed i
  pub sum : (seed i : ℕ) → c seed i ≡ (x₁ (i + 1600) + x₂ seed (i + 1600)) % 2

-- Each sequence is computed by a window of 31 places that moves over it. The window is a number, whose bit j is the sequence's bit j places on.

-- the bit that follows a window of the first sequence
abbrev pub fresh₁ : ℕ → ℕ
fresh₁ w = (bit w 3 + bit w 0) % 2

-- the bit that follows a window of the second sequence
abbrev pub fresh₂ : ℕ → ℕ
fresh₂ w = (bit w 3 + bit w 2 + bit w 1 + bit w 0) % 2

-- the window one place on: its lowest bit leaves, and the bit that follows comes in at the top
abbrev pub shifted : (ℕ → ℕ) → ℕ → ℕ
shifted fresh w = w / 2 % 2 ^ 30 + fresh w * 2 ^ 30

-- the window i places on
unfoldable pub window : (ℕ → ℕ) → ℕ → ℕ → ℕ
window fresh w zero = w
window fresh w (suc i) = window fresh (shifted fresh w) i

-- the first sequence, from a window that holds 1
unfoldable pub x₁ : ℕ → ℕ
x₁ i = bit (window fresh₁ 1 i) 0

-- the second sequence, from a window that holds the seed
unfoldable pub x₂ : ℕ → ℕ → ℕ
x₂ seed i = bit (window fresh₂ seed i) 0

-- c(i) of a seed
unfoldable pub gold : ℕ → ℕ → ℕ
gold seed i = (x₁ (i + 1600) + x₂ seed (i + 1600)) % 2

-- c(0) to c(n - 1) of a seed
unfoldable pub sequence : ℕ → ℕ → List ℕ
sequence seed n = map (gold seed) (range_with_len 0 n)

-- The three are the standard's. Kept shut, so that a caller's `search` does not try its clauses on every equation.
unfoldable pub MeetsStandard : Type 0
MeetsStandard = Standard x₁ x₂ gold
