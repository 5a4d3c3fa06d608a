-- The two kinds of point that are built: the first bit sets I and the second Q. Assumes nothing.
use Rattle.std.specs.Prelude.{false, pos}
use Rattle.std.specs.Float.{fin}
use Rattle.point.specs.declared.fixed.FixedPoint.{FixedPoint}
use Rattle.point.specs.declared.float.FloatPoint.{FloatPoint}
use Rattle.point.specs.Kinds.{Kind}
use Rattle.point.specs.Coordinates.{fixed_side, fixed_bit, float_side, float_bit, both}

-- the blank has two zeros
abbrev pub fixed_kind : Kind FixedPoint
fixed_kind = record {
  blank = record { i = pos 0; q = pos 0 };
  point = λ a b. record { i = fixed_side a; q = fixed_side b };
  pair = λ p. both (fixed_bit p.i) (fixed_bit p.q);
}

-- the blank has two positive zeros
abbrev pub float_kind : Kind FloatPoint
float_kind = record {
  blank = record { i = fin false 0 (pos 0); q = fin false 0 (pos 0) };
  point = λ a b. record { i = float_side a; q = float_side b };
  pair = λ p. both (float_bit p.i) (float_bit p.q);
}
