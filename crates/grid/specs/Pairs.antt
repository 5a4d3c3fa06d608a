-- Bits as points, two bits to a point. A bit is the number 0 or 1. Assumes nothing.
use Rattle.std.specs.Prelude.{ℕ, Bool, true, false, List, [], ◌∷◌, map, slice_index, Some, None, Option, ◌==◌}
use Rattle.point.specs.Kinds.{Kind}

-- whether a bit is 1
abbrev pub is_one : ℕ → Bool
is_one n = n == 1

-- the bit of a truth value
abbrev pub bit : Bool → ℕ
bit false = 0
bit true = 1

-- each pair of bits as its point
unfoldable pub points : {X : Type 0} → Kind X → List ℕ → List X
points K [] = []
points K (a ∷ []) = []
points K (a ∷ b ∷ bits) = K.point (is_one a) (is_one b) ∷ points K bits

-- the point of each pair
unfoldable pub pair_points : {X : Type 0} → Kind X → List (List ℕ) → List X
pair_points K pairs = map (λ pair. K.point (is_one (slice_index pair 0)) (is_one (slice_index pair 1))) pairs

-- a pair in front of bits, where both are there
abbrev pub joined : Option (Bool × Bool) → Option (List ℕ) → Option (List ℕ)
joined None bits = None
joined (Some p) None = None
joined (Some p) (Some bits) = Some (bit p.0 ∷ bit p.1 ∷ bits)

-- the bits that points stand for, if each of them stands for a pair
unfoldable pub bits_of : {X : Type 0} → Kind X → List X → Option (List ℕ)
bits_of K [] = Some []
bits_of K (x ∷ xs) = joined (K.pair x) (bits_of K xs)
