-- Bits and bytes: a byte holds eight bits, the highest first. Assumes nothing.
use Rattle.std.specs.Prelude.{ℕ, ◌-◌, ◌/◌, ◌%◌, ◌^◌, List, map, slice_index}
use Rattle.std.specs.List.{range_with_len}

-- bit k of some bytes, 0 past their end
abbrev pub bit_at : List ℕ → ℕ → ℕ
bit_at bytes k = slice_index bytes (k / 8) / 2 ^ (7 - k % 8) % 2

-- the first n bits
abbrev pub unpacked : List ℕ → ℕ → List ℕ
unpacked bytes n = map (bit_at bytes) (range_with_len 0 n)
