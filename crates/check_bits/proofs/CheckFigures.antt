-- Figures of the check bits, at every length. Assumes nothing.
use Rattle.std.proofs.Common.{◌≡◌, ℕ, zero, suc, [], ◌∷◌, ◌++◌, refl, ◌∙◌}
use Rattle.stage.specs.Bits.{zeros}
use Rattle.check_bits.specs.Checking.{check_bits_of, to_bits}
use Rattle.check_bits.specs.Division.{low, register, check_bits_is}

zero_register : (n : ℕ) → register low (zeros 24) (zeros n) ≡ zeros 24
zero_register zero = refl
zero_register (suc n) = zero_register n

-- an all-zero block has all-zero check bits
pub zero_check : (n : ℕ) → check_bits_of (zeros n) ≡ zeros 24
zero_check n = check_bits_is (zeros n) ∙ zero_register n

last_register : (n : ℕ) → register low (zeros 24) (zeros n ++ 1 ∷ []) ≡ to_bits 24 0x864cfb
unfolding to_bits
last_register zero = refl
last_register (suc n) = last_register n

-- a block whose only 1 is its last bit has the generator's coefficients below D^24
pub last_check : (n : ℕ) → check_bits_of (zeros n ++ 1 ∷ []) ≡ to_bits 24 0x864cfb
last_check n = check_bits_is (zeros n ++ 1 ∷ []) ∙ last_register n
