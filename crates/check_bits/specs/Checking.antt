-- Check bits: a block, and behind it the remainder of block × D^24 by the generator. A polynomial over the field of two elements
-- is the list of its coefficients, the highest power first: so p ++ r is p × D^k + r, where r has k coefficients. Assumes nothing.
use Rattle.std.specs.Prelude.{◌≡◌, ℕ, zero, suc, ◌+◌, ◌/◌, ◌%◌, ◌^◌, true, cond, ◌&&◌, List, [], ◌∷◌, ◌++◌, length, ◌==◌, nat_le, nat_lt}
use Rattle.stage.specs.Bits.{binary, Bits, xor, zeros}
use Rattle.stage.specs.Meaning.{Meaning}
use Rattle.stage.specs.Ranges.{within}

-- the coefficient of D^k in a sum of powers of D
abbrev pub coefficient : List ℕ → ℕ → ℕ
coefficient [] k = 0
coefficient (p ∷ ps) k = cond (p == k) 1 (coefficient ps k)

-- the coefficients of a sum of powers, from D^k down to D^0
abbrev pub polynomial : ℕ → List ℕ → List ℕ
polynomial zero ps = coefficient ps 0 ∷ []
polynomial (suc k) ps = coefficient ps (suc k) ∷ polynomial k ps

-- D^24+D^23+D^18+D^17+D^14+D^11+D^10+D^7+D^6+D^5+D^4+D^3+D+1
abbrev pub generator : List ℕ
generator = polynomial 24 (24 ∷ 23 ∷ 18 ∷ 17 ∷ 14 ∷ 11 ∷ 10 ∷ 7 ∷ 6 ∷ 5 ∷ 4 ∷ 3 ∷ 1 ∷ 0 ∷ [])

-- what stands below the highest power
abbrev pub below : List ℕ → List ℕ
below [] = []
below (c ∷ p) = p

-- a coefficient, 0 or 1, times a polynomial
abbrev pub scaled : ℕ → List ℕ → List ℕ
scaled zero p = zeros (length p)
scaled (suc c) p = p

-- the product of q and g: the highest term of q times g, and the rest of q times g one power lower
abbrev pub product : List ℕ → List ℕ → List ℕ
product [] g = zeros (length (below g))
product (c ∷ q) g = xor (scaled c g) (0 ∷ product q g)

-- r is a remainder of b × D^24 by the generator: it has 24 bits, and b × D^24 + r is a multiple of the generator
pub record Remainder (b r : List ℕ) : Type 0 where
  pub bits : Bits 24 r
  pub quotient : List ℕ
  pub quotient_bits : Bits (length b) quotient
  pub multiple : b ++ r ≡ product quotient generator

-- long division by g, n coefficients of the quotient: each takes its multiple of g away, and with it the highest coefficient
abbrev pub divided : List ℕ → ℕ → List ℕ → List ℕ
divided g zero w = w
divided g (suc n) [] = []
divided g (suc n) (c ∷ w) = divided g n (xor (scaled c (below g)) w)

-- what long division of b × D^24 by the generator leaves
abbrev pub check_bits_of : List ℕ → List ℕ
check_bits_of b = divided generator (length b) (b ++ zeros 24)

-- `check` gives the remainder of every block, and there is no other remainder
pub record GivesRemainders (check : List ℕ → List ℕ) : Type 0 where
  pub remainder : (b : List ℕ) → binary b ≡ true → Remainder b (check b)
  pub only : (b r : List ℕ) → Remainder b r → r ≡ check b

-- The check bits are the remainder. Kept shut, so that a caller's `search` does not try its clauses on every equation.
unfoldable pub CheckBitsStand : Type 0
CheckBitsStand = GivesRemainders check_bits_of

-- a remainder r and one bit b more: D × r + b × D^24, divided again
abbrev pub taken_in : List ℕ → ℕ → List ℕ
taken_in r b = divided generator 1 (xor (b ∷ []) (r ++ 0 ∷ []))

-- the k low bits of a number, the highest first
unfoldable pub to_bits : ℕ → ℕ → List ℕ
to_bits zero x = []
to_bits (suc k) x = x / 2 ^ k % 2 ∷ to_bits k x

abbrev pub checking : Meaning
checking = record {
  size = λ n e. cond (nat_lt 0 n && (nat_le n 7656 && within e)) (n + 24) 0;
  image = λ n e b. b ++ check_bits_of b;
  offset = λ n e seed. zeros (n + 24);
  covers = λ n e. true;
}
