-- Lengths that a stage may have. Assumes nothing.
use Rattle.std.specs.Prelude.{ℕ, Bool, ◌&&◌, nat_le, nat_lt}

-- whether a length is from 1 to 7,680
abbrev pub within : ℕ → Bool
within n = nat_lt 0 n && nat_le n 7680
