-- The tail-biting convolutional code of rate 1/3 and constraint length 7. Assumes nothing.
use Rattle.std.specs.Prelude.{ℕ, zero, suc, ◌+◌, ◌-◌, ◌*◌, ◌%◌, Bool, true, cond, ◌&&◌, List, [], ◌∷◌, ◌++◌, map, length, take, drop, bit_xor, nat_le, slice_index}
use Rattle.std.specs.List.{range_with_len}
use Rattle.stage.specs.Bits.{xor, zeros}
use Rattle.stage.specs.Meaning.{Meaning}
use Rattle.stage.specs.Ranges.{within}

-- the position k - t modulo n, where n * t is a whole number of times round
abbrev pub behind : ℕ → ℕ → ℕ → ℕ
behind n k t = (k + n * t - t) % n

-- the exclusive-or of a block's bits at the positions k - t, for each tap t
abbrev pub tapped : List ℕ → List ℕ → ℕ → ℕ
tapped b [] k = 0
tapped b (t ∷ ts) k = bit_xor (slice_index b (behind (length b) k t)) (tapped b ts k)

-- a stream: one bit for each position of the block
unfoldable pub stream : List ℕ → List ℕ → List ℕ
stream ts b = map (tapped b ts) (range_with_len 0 (length b))

-- the taps of streams 0, 1 and 2: the polynomials 133, 171 and 165, octal
abbrev pub taps_of : ℕ → List ℕ
taps_of zero = 0 ∷ 2 ∷ 3 ∷ 5 ∷ 6 ∷ []
taps_of (suc zero) = 0 ∷ 1 ∷ 2 ∷ 3 ∷ 6 ∷ []
taps_of (suc (suc j)) = 0 ∷ 1 ∷ 2 ∷ 4 ∷ 6 ∷ []

-- the word of a block: its three streams, one after the other
unfoldable pub coded : List ℕ → List ℕ
coded b = stream (taps_of 0) b ++ (stream (taps_of 1) b ++ stream (taps_of 2) b)

-- whether a block length is from 7 to 2,560
abbrev pub codable : ℕ → Bool
codable n = nat_le 7 n && nat_le n 2560

abbrev pub coding : Meaning
coding = record {
  size = λ n e. cond (codable n && within e) (3 * n) 0;
  image = λ n e b. coded b;
  offset = λ n e seed. zeros (3 * n);
  covers = λ n e. true;
}

-- the taps that undo streams 0 and 2: as polynomials, undo0 times taps_of 0 and undo2 times taps_of 2 add up to 1
abbrev pub undo0 : List ℕ
undo0 = 1 ∷ 3 ∷ []

abbrev pub undo2 : List ℕ
undo2 = 0 ∷ 2 ∷ 3 ∷ []

-- the one block of n bits that can have the word w
abbrev pub uncoded : ℕ → List ℕ → List ℕ
uncoded n w = xor (stream undo0 (take n w)) (stream undo2 (drop (2 * n) w))
