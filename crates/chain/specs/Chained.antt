-- The built-in chain: check bits, tail-biting code, interleaver, selection, scrambler, in this order. Assumes nothing.
use Rattle.std.specs.Prelude.{◌≡◌, ℕ, ◌+◌, ◌*◌, ◌^◌, ◌<◌, Bool, cond, ◌&&◌, List, ◌++◌, nat_le, nat_lt}
use Rattle.stage.specs.declared.setting.Setting.{Setting}
use Rattle.stage.specs.Bits.{Bits, xor}
use Rattle.stage.specs.Gather.{gathered}
use Rattle.stage.specs.Meaning.{Meaning, word, paired}
use Rattle.stage.specs.Refusals.{ranged}
use Rattle.gold.specs.Sequence.{sequence}
use Rattle.stage.specs.Ranges.{within}
use Rattle.check_bits.specs.Checking.{checking, check_bits_of}
use Rattle.tail_biting.specs.Coding.{coding, coded}
use Rattle.interleaver.specs.Interleaving.{interleaving, triple}
use Rattle.chain.specs.Selecting.{selecting, ring}
use Rattle.chain.specs.Scrambling.{scrambling}

abbrev pub chained : Meaning
chained = paired checking (paired coding (paired interleaving (paired selecting scrambling)))

-- whether a block length is from 1 to 2,536
abbrev pub sendable : ℕ → Bool
sendable n = nat_lt 0 n && nat_le n 2536

-- E bits exactly for blocks of 1 to 2,536 bits
abbrev pub chain_length : ℕ → Setting → ℕ
chain_length n s = cond (ranged s && sendable n) s.output 0

-- covered exactly where E is at least 3 (n + 24)
abbrev pub chain_covers : ℕ → Setting → Bool
chain_covers n s = (ranged s && sendable n) && nat_le (3 * (n + 24)) s.output

-- the chain in plain numbers, at output length e
pub record InNumbers (m : Meaning) : Type 0 where
  pub lengths : (n e : ℕ) → m.size n e ≡ cond (sendable n && within e) e 0
  pub marks : (n e : ℕ) → 0 < m.size n e → m.covers n e ≡ nat_le (3 * (n + 24)) e
  -- the word: block and check bits coded, interleaved, taken in a ring, and the pseudo-random sequence added
  pub words : (n e seed : ℕ) (b : List ℕ) → 0 < m.size n e → seed < 2 ^ 31 → Bits n b
      → word m n e seed b
      ≡ xor (gathered (ring (3 * (n + 24)) e) (gathered (triple (n + 24)) (coded (b ++ check_bits_of b)))) (sequence seed e)

-- Kept shut, so that a caller's `search` does not try its clauses on every equation.
unfoldable pub ChainStands : Type 0
ChainStands = InNumbers chained
