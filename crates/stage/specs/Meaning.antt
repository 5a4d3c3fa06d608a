-- What a stage means, the laws that it shows, and what a pair of stages means. Assumes nothing.
use Rattle.std.specs.Prelude.{◌≡◌, ℕ, ◌^◌, ◌<◌, ◌≤◌, Bool, true, ◌&&◌, List}
use Rattle.stage.specs.Bits.{Bits, xor}

-- n is the block length, e the setting's output length. Only the offset takes the seed.
pub record Meaning : Type 0 where
  -- the word length, 0 where there is no word
  pub size : (n e : ℕ) → ℕ
  -- the difference map, from blocks of n bits to words
  pub image : (n e : ℕ) → List ℕ → List ℕ
  pub offset : (n e seed : ℕ) → List ℕ
  -- the mark: covering, or not
  pub covers : (n e : ℕ) → Bool

-- the word of a block: its image, exclusive-or the offset
abbrev pub word : Meaning → (n e seed : ℕ) → List ℕ → List ℕ
word m n e seed b = xor (m.image n e b) (m.offset n e seed)

pub record Lawful (m : Meaning) : Type 0 where
  -- a word length is one at lengths from 1 to 7,680, and is itself such a length
  pub sized : (n e : ℕ) → 0 < m.size n e → (0 < n) × (n ≤ 7680) × (0 < e) × (e ≤ 7680) × (m.size n e ≤ 7680)
  pub images : (n e : ℕ) (b : List ℕ) → 0 < m.size n e → Bits n b → Bits (m.size n e) (m.image n e b)
  pub offsets : (n e seed : ℕ) → 0 < m.size n e → seed < 2 ^ 31 → Bits (m.size n e) (m.offset n e seed)
  -- the exclusive-or of two blocks has as image the exclusive-or of their images
  pub linear : (n e : ℕ) (a b : List ℕ) → 0 < m.size n e → Bits n a → Bits n b
      → m.image n e (xor a b) ≡ xor (m.image n e a) (m.image n e b)
  -- where the mark is covering, different blocks have different images
  pub apart : (n e : ℕ) (a b : List ℕ) → 0 < m.size n e → m.covers n e ≡ true → Bits n a → Bits n b
      → m.image n e a ≡ m.image n e b → a ≡ b

-- first a, then b; a lawful stage has no word at length 0, so there is none where either has none
abbrev pub paired : Meaning → Meaning → Meaning
paired a b = record {
  size = λ n e. b.size (a.size n e) e;
  image = λ n e x. b.image (a.size n e) e (a.image n e x);
  offset = λ n e seed. xor (b.image (a.size n e) e (a.offset n e seed)) (b.offset (a.size n e) e seed);
  covers = λ n e. a.covers n e && b.covers (a.size n e) e;
}
