-- The lowest bit of masks and sums, in whatever order the code adds them up.
use Rattle.std.proofs.Common.{◌≡◌, ℕ, ◌+◌, ◌%◌, arith}
use lib.Bits.{bit_and, bit_xor, and_mask, xor_add_and}

pub low_and : (a : ℕ) → bit_and a 1 ≡ a % 2
low_and a = and_mask a 1

pub low_xor : (a b : ℕ) → bit_xor a b % 2 ≡ (a % 2 + b % 2) % 2
low_xor a b = omega (arith, xor_add_and a b)
