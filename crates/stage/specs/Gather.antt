-- A word that is made of bits of a block, each taken from a place of the block. Assumes nothing.
use Rattle.std.specs.Prelude.{◌≡◌, ℕ, ◌<◌, List, map, length, slice_index}

-- the bits of xs at the places ps
unfoldable pub gathered : List ℕ → List ℕ → List ℕ
gathered ps xs = map (λ p. slice_index xs p) ps

-- each of the places lies below n
abbrev pub Within : ℕ → List ℕ → Type 0
Within n ps = (k : ℕ) → k < length ps → slice_index ps k < n

-- each place below n is among them
abbrev pub Every : ℕ → List ℕ → Type 0
Every n ps = (p : ℕ) → p < n → (k : ℕ) × (k < length ps) × (slice_index ps k ≡ p)
