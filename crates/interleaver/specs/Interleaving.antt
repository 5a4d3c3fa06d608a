-- The sub-block interleaver: each of three streams is written into a matrix of 32 columns row by row, and
-- read column by column. Cells are numbered row by row, from the top left. Assumes nothing.
use Rattle.std.specs.Prelude.{ℕ, ◌+◌, ◌-◌, ◌*◌, ◌/◌, ◌%◌, Bool, true, cond, ◌&&◌, List, [], ◌∷◌, map, drop, Some, None, filter, Option, ◌==◌, nat_le}
use Rattle.std.specs.List.{range_with_len, flat_map}
use Rattle.stage.specs.Bits.{zeros}
use Rattle.stage.specs.Gather.{gathered}
use Rattle.stage.specs.Meaning.{Meaning}
use Rattle.stage.specs.Ranges.{within}

-- the order in which the columns are read
abbrev pub order : List ℕ
order =
    1 ∷ 17 ∷ 9 ∷ 25 ∷ 5 ∷ 21 ∷ 13 ∷ 29 ∷ 3 ∷ 19 ∷ 11 ∷ 27 ∷ 7 ∷ 23 ∷ 15 ∷ 31
    ∷ 0 ∷ 16 ∷ 8 ∷ 24 ∷ 4 ∷ 20 ∷ 12 ∷ 28 ∷ 2 ∷ 18 ∷ 10 ∷ 26 ∷ 6 ∷ 22 ∷ 14 ∷ 30 ∷ []

-- the fewest rows of 32 columns that hold d bits
abbrev pub rows : ℕ → ℕ
rows d = (d + 31) / 32

-- how many cells d bits leave unused: these are the first
abbrev pub unused : ℕ → ℕ
unused d = 32 * rows d - d

abbrev pub used : ℕ → ℕ → Bool
used d q = nat_le (unused d) q

-- the cell in column c and row r
abbrev pub cell : ℕ → ℕ → ℕ
cell c r = 32 * r + c

-- the cells of a column, top to bottom
abbrev pub column : ℕ → ℕ → List ℕ
column d c = map (cell c) (range_with_len 0 (rows d))

-- the cells as they are read
unfoldable pub reading : ℕ → List ℕ
reading d = flat_map (column d) order

-- the bits of a stream as they are read: unused cells are skipped, and bit 0 is in the first used cell
unfoldable pub places : ℕ → List ℕ
places d = map (λ q. q - unused d) (filter (used d) (reading d))

-- those that are left to read at turn c, row r
unfoldable pub left : ℕ → ℕ → ℕ → List ℕ
left d c r = map (λ q. q - unused d) (filter (used d) (drop (c * rows d + r) (reading d)))

-- the row in which bit p stands
abbrev pub row_of : ℕ → ℕ → ℕ
row_of d p = (p + unused d) / 32

-- the first bit of column c: its top cell may be unused, and bits of one column stand 32 cells apart
abbrev pub first_in : ℕ → ℕ → ℕ
first_in d c = (32 + c - unused d) % 32

-- the bit in cell q, or none where it is unused
abbrev pub bit_in : ℕ → ℕ → Option ℕ
bit_in d q = cond (used d q) (Some (q - unused d)) None

-- the places of stream s of three, which begins at place s * d
abbrev pub stream_places : ℕ → ℕ → List ℕ
stream_places d s = map (λ p. s * d + p) (places d)

-- the places of the three streams, one after the other
unfoldable pub triple : ℕ → List ℕ
triple d = flat_map (stream_places d) (0 ∷ 1 ∷ 2 ∷ [])

-- whether a block is three streams of 7 to 2,560 bits
abbrev pub three_streams : ℕ → Bool
three_streams n = n % 3 == 0 && (nat_le 7 (n / 3) && nat_le (n / 3) 2560)

abbrev pub interleaving : Meaning
interleaving = record {
  size = λ n e. cond (three_streams n && within e) n 0;
  image = λ n e b. gathered (triple (n / 3)) b;
  offset = λ n e seed. zeros n;
  covers = λ n e. true;
}
