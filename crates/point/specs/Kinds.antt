-- A kind of point, and what makes it lawful. Assumes nothing.
use Rattle.std.specs.Prelude.{◌≡◌, Bool, Some, None, Option, ◌≢◌}

-- a blank, a point for each pair of bits, and the pair that a point stands for, if any
pub record Kind (X : Type 0) : Type 0 where
  pub blank : X
  pub point : Bool → Bool → X
  pub pair : X → Option (Bool × Bool)

-- each of the four points reads back as its own pair, the blank as none, and nothing else reads as a pair
pub record LawfulKind {X : Type 0} (K : Kind X) : Type 0 where
  pub own : (a b : Bool) → K.pair (K.point a b) ≡ Some (a, b)
  pub bare : K.pair K.blank ≡ None
  pub only : (x : X) (a b : Bool) → K.pair x ≡ Some (a, b) → x ≡ K.point a b

-- the five differ: points of different pairs, and the blank from all four
pub record Distinct {X : Type 0} (K : Kind X) : Type 0 where
  pub four : (a b c d : Bool) → K.point a b ≡ K.point c d → (a ≡ c) × (b ≡ d)
  pub blank_apart : (a b : Bool) → K.blank ≢ K.point a b
