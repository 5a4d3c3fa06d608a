-- The grid of a closed subframe, of an open one without data, and of one with data. A grid has n = 168 points. Assumes nothing.
use Rattle.std.specs.Prelude.{ℕ, List, replicate, Option}
use Rattle.point.specs.Kinds.{Kind}
use Rattle.grid.specs.declared.purpose.Purpose.TheVariants.{Reference, Data}
use Rattle.grid.specs.Walk.{laid, taken, overwritten}
use Rattle.grid.specs.Purposes.{among}
use Rattle.grid.specs.Pairs.{points, bits_of}
use Rattle.grid.specs.References.{reference_bits}

-- blanks only
unfoldable pub vacant : {X : Type 0} → Kind X → ℕ → List X
vacant K n = replicate n K.blank

-- the reference points, and blanks
unfoldable pub marked : {X : Type 0} → Kind X → ℕ → ℕ → ℕ → List X
marked K n identity subframe = laid (among Reference identity) 0 (vacant K n) (points K (reference_bits identity subframe))

-- the reference points, and bits on the data elements, as far as they go
unfoldable pub carrying : {X : Type 0} → Kind X → ℕ → ℕ → ℕ → List ℕ → List X
carrying K n identity subframe bits = laid (among Data identity) 0 (marked K n identity subframe) (points K bits)

-- the bits that the data elements of a grid stand for, if each of them stands for a pair
unfoldable pub aired_bits : {X : Type 0} → Kind X → ℕ → List X → Option (List ℕ)
aired_bits K identity grid = bits_of K (taken (among Data identity) 0 grid)

-- the first 320 of the bits, and zeros where there are fewer
unfoldable pub in_320 : List ℕ → List ℕ
in_320 bits = overwritten (replicate 320 0) bits
