-- The coordinate of a bit, and the bit of a coordinate: 0 is positive. Assumes nothing.
use Rattle.std.specs.Prelude.{Bool, true, false, cond, ◌&&◌, ℤ, pos, negsuc, Some, None, Option, ◌==◌, Float}
use Rattle.std.specs.Float.{nan, inf, fin}

-- +1,448 or -1,448
abbrev pub fixed_side : Bool → ℤ
fixed_side false = pos 1448
fixed_side true = negsuc 1447

-- every other number has no bit
abbrev pub fixed_bit : ℤ → Option Bool
fixed_bit (pos n) = cond (n == 1448) (Some false) None
fixed_bit (negsuc n) = cond (n == 1447) (Some true) None

-- +181/2^8 or -181/2^8, which is 0.70703125; `fin s m e` is m 2^e with the sign s, and `negsuc 7` is -8
abbrev pub float_side : Bool → Float
float_side b = fin b 181 (negsuc 7)

-- every other float has no bit, nor has what is not a number
abbrev pub float_bit : Float → Option Bool
float_bit nan = None
float_bit (inf s) = None
float_bit (fin s m (pos e)) = None
float_bit (fin s m (negsuc e)) = cond (m == 181 && e == 7) (Some s) None

-- two bits, where both are there
abbrev pub both : Option Bool → Option Bool → Option (Bool × Bool)
both None b = None
both (Some a) None = None
both (Some a) (Some b) = Some (a, b)
