-- Bits as points and points as bits, pair by pair.
use Rattle.std.proofs.Common.{◌≡◌, ℕ, zero, suc, ◌-◌, ◌*◌, ◌/◌, ◌<◌, Bool, true, false, List, [], ◌∷◌, length, take, drop, get_or, map, Some, None, Option, refl, ap, arith}
use Rattle.std.specs.Simd.{first_chunks}
use Rattle.std.proofs.lemmas.List.{take_all}
use Rattle.point.specs.Kinds.{Kind, LawfulKind}
use Rattle.grid.specs.Pairs.{is_one, bit, points, pair_points, joined, bits_of}

bit_back : (a : ℕ) → a < 2 → bit (is_one a) ≡ a
bit_back zero h = refl
bit_back (suc zero) h = refl
bit_back (suc (suc a)) h = absurd (omega arith)

length_joined : (p : Option (Bool × Bool)) (o : Option (List ℕ)) (bs : List ℕ) (n : ℕ) → joined p o ≡ Some bs → ((us : List ℕ) → o ≡ Some us → length us ≡ 2 * n) → length bs ≡ 2 * suc n
length_joined None o bs n e h = cc
length_joined (Some p) None bs n e h = cc
length_joined (Some p) (Some us) bs n e h = let q : bit p.0 ∷ bit p.1 ∷ us ≡ bs = cc in omega (arith, ap length q, h us refl)

bit_small : (b : Bool) → bit b < 2
bit_small true = omega arith
bit_small false = omega arith

two_small : (bs us : List ℕ) (p : Bool × Bool) (k : ℕ) → bit p.0 ∷ bit p.1 ∷ us ≡ bs → ((j : ℕ) → get_or us j 0 < 2) → get_or bs k 0 < 2
two_small bs us p zero e h = rw (← e) (bit_small p.0)
two_small bs us p (suc zero) e h = rw (← e) (bit_small p.1)
two_small bs us p (suc (suc k)) e h = rw (← e) (h k)

joined_small : (p : Option (Bool × Bool)) (o : Option (List ℕ)) (bs : List ℕ) (k : ℕ) → joined p o ≡ Some bs → ((us : List ℕ) (j : ℕ) → o ≡ Some us → get_or us j 0 < 2) → get_or bs k 0 < 2
joined_small None o bs k e h = cc
joined_small (Some p) None bs k e h = cc
joined_small (Some p) (Some us) bs k e h = two_small bs us p k (cc) (λ j. h us j refl)

module _ {X : Type 0} (K : Kind X) where
  -- the points of the pairs, one for each
  pub points-chunks : (bs : List ℕ) (n : ℕ) → n ≡ length bs / 2 → map (λ c. K.point (is_one (get_or c 0 0)) (is_one (get_or c 1 0))) (first_chunks 2 n bs) ≡ points K bs
  unfolding points
  points-chunks [] zero h = refl
  points-chunks [] (suc n) h = absurd (omega arith)
  points-chunks (a ∷ []) zero h = refl
  points-chunks (a ∷ []) (suc n) h = absurd (omega arith)
  points-chunks (a ∷ b ∷ bs) zero h = absurd (omega arith)
  points-chunks (a ∷ b ∷ bs) (suc n) h = ap (λ xs. K.point (is_one a) (is_one b) ∷ xs) (points-chunks bs n (omega arith))

  pub points_of_chunks : (bs : List ℕ) → pair_points K (first_chunks 2 (length bs / 2) bs) ≡ points K bs
  unfolding pair_points
  points_of_chunks bs = points-chunks bs (length bs / 2) refl

  pub length-points : (bs : List ℕ) → length (points K bs) ≡ length bs / 2
  unfolding points
  length-points [] = refl
  length-points (a ∷ []) = refl
  length-points (a ∷ b ∷ bs) = omega (arith, length-points bs)

  -- two bits to a point
  pub length_bits : (xs : List X) (bs : List ℕ) → bits_of K xs ≡ Some bs → length bs ≡ 2 * length xs
  unfolding bits_of
  length_bits [] bs e = let q : [] ≡ bs = cc in omega (arith, ap length q)
  length_bits (x ∷ xs) bs e = length_joined (K.pair x) (bits_of K xs) bs (length xs) e (length_bits xs)

  -- and each is 0 or 1
  pub bits_small : (xs : List X) (bs : List ℕ) (k : ℕ) → bits_of K xs ≡ Some bs → get_or bs k 0 < 2
  unfolding bits_of
  bits_small [] bs k e = let q : [] ≡ bs = cc in rw (← q) (omega arith)
  bits_small (x ∷ xs) bs k e = joined_small (K.pair x) (bits_of K xs) bs k e (bits_small xs)

  -- the points of bits stand for these bits
  pub bits_of_points : LawfulKind K → (bs : List ℕ) (n : ℕ) → length bs ≡ 2 * n → ((k : ℕ) → k < 2 * n → get_or bs k 0 < 2) → bits_of K (points K bs) ≡ Some bs
  unfolding points bits_of
  bits_of_points law [] n h e = refl
  bits_of_points law (a ∷ []) n h e = absurd (omega arith)
  bits_of_points law (a ∷ b ∷ bs) zero h e = absurd (omega arith)
  bits_of_points law (a ∷ b ∷ bs) (suc n) h e =
      rw (law.own (is_one a) (is_one b), bits_of_points law bs n (omega arith) (λ k l. e (suc (suc k)) (omega arith)), bit_back a (e 0 (omega arith)), bit_back b (e 1 (omega arith)))

-- all of a list from its first element on
pub from_first : {X : Type 0} (xs : List X) → take (length xs - 0) (drop 0 xs) ≡ xs
from_first xs = take_all (length xs - 0) xs (omega arith)
