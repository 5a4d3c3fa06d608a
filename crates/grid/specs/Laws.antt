-- What putting and taking keep, and what stands on a written grid. Assumes nothing.
use Rattle.std.specs.Prelude.{◌≡◌, ℕ, ◌+◌, ◌*◌, ◌%◌, ◌<◌, Bool, true, false, List, length, Some, slice_index, slice_index_or}
use Rattle.gold.specs.Sequence.{gold}
use Rattle.point.specs.Kinds.{Kind}
use Rattle.grid.specs.declared.purpose.Purpose.TheVariants.{Reference, Data}
use Rattle.grid.specs.Walk.{laid, taken, count}
use Rattle.grid.specs.Purposes.{among}
use Rattle.grid.specs.Pairs.{is_one}
use Rattle.grid.specs.References.{reference_seed}
use Rattle.grid.specs.Grids.{marked, carrying, aired_bits}

-- what holds of things put on chosen places, and taken from them
pub record WalkLaw (X : Type 0) : Type 0 where
  -- a chosen place gets the thing of its number among the chosen places
  pub puts : (d : ℕ → Bool) (xs ts : List X) (place : ℕ) (x : X) → d place ≡ true → place < length xs → count d 0 place < length ts
      → slice_index_or (laid d 0 xs ts) place x ≡ slice_index_or ts (count d 0 place) x
  -- every other element stays as it was
  pub others : (d : ℕ → Bool) (xs ts : List X) (place : ℕ) (x : X) → d place ≡ false → slice_index_or (laid d 0 xs ts) place x ≡ slice_index_or xs place x
  -- what is taken from a chosen place comes at its number among them
  pub takes : (d : ℕ → Bool) (xs : List X) (place : ℕ) (x : X) → d place ≡ true → place < length xs → slice_index_or (taken d 0 xs) (count d 0 place) x ≡ slice_index_or xs place x
  -- things put, one for each chosen place, are taken again in their order
  pub back : (d : ℕ → Bool) (xs ts : List X) → length ts ≡ count d 0 (length xs) → taken d 0 (laid d 0 xs ts) ≡ ts

-- both reference elements of symbol l, with its v, hold the pairs of a seed
abbrev pub SymbolHolds : {X : Type 0} → Kind X → ℕ → List X → ℕ → ℕ → ℕ → Type 0
SymbolHolds K identity grid l v seed =
    (i : ℕ) → i < 2 → slice_index_or grid (12 * l + 6 * i + (v + identity) % 6) K.blank ≡ K.point (is_one (gold seed (218 + 2 * i))) (is_one (gold seed (219 + 2 * i)))

-- the eight reference elements of a subframe hold their pairs
pub record ReferencesHold {X : Type 0} (K : Kind X) (identity subframe : ℕ) (grid : List X) : Type 0 where
  pub symbol_5 : SymbolHolds K identity grid 5 0 (reference_seed identity (2 * subframe) 5)
  pub symbol_6 : SymbolHolds K identity grid 6 3 (reference_seed identity (2 * subframe) 6)
  pub symbol_12 : SymbolHolds K identity grid 12 0 (reference_seed identity (2 * subframe + 1) 5)
  pub symbol_13 : SymbolHolds K identity grid 13 3 (reference_seed identity (2 * subframe + 1) 6)

-- what holds of grids of 168 points
pub record GridLaw {X : Type 0} (K : Kind X) : Type 0 where
  -- what is written is read back
  pub read_back : (identity subframe : ℕ) (bits : List ℕ) → length bits ≡ 320 → ((k : ℕ) → k < 320 → slice_index bits k < 2)
      → aired_bits K identity (carrying K 168 identity subframe bits) ≡ Some bits
  -- at every identity 160 elements carry data and 8 are reference elements
  pub data_elements : (identity : ℕ) → count (among Data identity) 0 168 ≡ 160
  pub reference_elements : (identity : ℕ) → count (among Reference identity) 0 168 ≡ 8
  -- the reference elements hold their pairs, and data leave them as they were
  pub references : (identity subframe : ℕ) → ReferencesHold K identity subframe (marked K 168 identity subframe)
  pub references_stay : (identity subframe : ℕ) (bits : List ℕ) → ReferencesHold K identity subframe (carrying K 168 identity subframe bits)

-- Both are kept shut, so that a caller's `search` does not try their clauses on every equation.
unfoldable pub KeepsThings : Type 0 → Type 0
KeepsThings X = WalkLaw X

unfoldable pub MeetsRules : {X : Type 0} → Kind X → Type 0
MeetsRules K = GridLaw K
