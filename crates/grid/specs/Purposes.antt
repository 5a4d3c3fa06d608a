-- What each element of a grid is for. Symbol l and subcarrier k stand at the place 12 l + k. Assumes nothing.
use Rattle.std.specs.Prelude.{ℕ, ◌+◌, ◌/◌, ◌%◌, Bool, true, false, cond, ◌&&◌, ◌||◌, ◌==◌}
use Rattle.grid.specs.declared.purpose.Purpose.{Purpose}
use Rattle.grid.specs.declared.purpose.Purpose.TheVariants.{Reference, Data}

-- whether k is 6 i + start for i = 0 or 1
abbrev pub comb : ℕ → ℕ → Bool
comb start k = k == start || k == 6 + start

-- reference elements stand in symbols 5 and 12 with v = 0, and in symbols 6 and 13 with v = 3
abbrev pub is_reference : ℕ → ℕ → ℕ → Bool
is_reference identity l k = ((l == 5 || l == 12) && comb ((0 + identity) % 6) k) || ((l == 6 || l == 13) && comb ((3 + identity) % 6) k)

-- what the element at a place is for, in a cell of that identity
abbrev pub purpose_of : ℕ → ℕ → Purpose
purpose_of identity place = cond (is_reference identity (place / 12) (place % 12)) Reference Data

-- whether two purposes are one
abbrev pub same : Purpose → Purpose → Bool
same Reference Reference = true
same Reference Data = false
same Data Reference = false
same Data Data = true

-- whether the element at a place has that purpose
unfoldable pub among : Purpose → ℕ → ℕ → Bool
among what identity place = same what (purpose_of identity place)
