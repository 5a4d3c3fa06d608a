-- The bits of the sequence, and its first n as a list.
use Rattle.std.proofs.Common.{◌≡◌, ℕ, ◌+◌, ◌<◌, [], ◌∷◌, ◌++◌, length, get_or, arith}
use Rattle.std.proofs.lemmas.List.FromFn.{length-map-range_with_len, get_or-map-range_with_len, map-range_with_len_more}
use Rattle.gold.specs.Sequence.{gold, sequence}

pub gold-bit : (seed k : ℕ) → gold seed k < 2
unfolding gold
gold-bit seed k = omega arith

pub length-sequence : (seed n : ℕ) → length (sequence seed n) ≡ n
unfolding sequence
length-sequence seed n = length-map-range_with_len (gold seed) 0 n

pub slice_index-sequence : (seed n k : ℕ) → k < n → get_or (sequence seed n) k 0 ≡ gold seed k
unfolding sequence
slice_index-sequence seed n k h = get_or-map-range_with_len (gold seed) 0 n k k 0 h (omega arith)

pub sequence_more : (seed k : ℕ) → sequence seed (k + 1) ≡ sequence seed k ++ gold seed k ∷ []
unfolding sequence
sequence_more seed k = map-range_with_len_more (gold seed) 0 k k (omega arith)
