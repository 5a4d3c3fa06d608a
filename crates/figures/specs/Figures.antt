-- Worked figures: what the definitions give on examples, as one list. Assumes nothing.
use Rattle.std.specs.Prelude.{◌≡◌, ℕ, suc, ◌+◌, Bool, true, false, List, [], ◌∷◌, ◌++◌, take, replicate, ℤ, pos, negsuc, slice_index}
use Rattle.std.specs.List.{AllByRecursion}
use Rattle.stage.specs.Bits.{zeros}
use Rattle.check_bits.specs.Checking.{check_bits_of, to_bits}
use Rattle.tail_biting.specs.Coding.{coded, stream, taps_of}
use Rattle.interleaver.specs.Interleaving.{places}
use Rattle.chain.specs.Selecting.{ring}
use Rattle.chain.specs.Chained.{chained}
use Rattle.calendar.specs.Rounds.{seed_of}
use Rattle.grid.specs.References.{reference_seed}
use Rattle.point.specs.Built.{fixed_kind}

-- what a definition gives, and what it should; a figure that holds at every length takes the length as n
pub record Figure : Type 0 where
  pub gives : (n : ℕ) → List ℕ
  pub should_be : (n : ℕ) → List ℕ

abbrev pub flag : Bool → ℕ
flag false = 0
flag true = 1

-- a signed number as its sign, 1 for minus, and its size
abbrev pub signed : ℤ → List ℕ
signed (pos n) = 0 ∷ n ∷ []
signed (negsuc n) = 1 ∷ suc n ∷ []

-- whether the built-in chain covers blocks of a bits at the output length e
abbrev pub covered : (a e : ℕ) → ℕ
covered a e = flag (chained.covers a e)

unfoldable pub figures : List Figure
figures =
    -- an all-zero block has all-zero check bits
    record { gives = λ n. check_bits_of (zeros n); should_be = λ n. zeros 24 }
    -- a block whose only 1 is its last bit has 0x864CFB
    ∷ record { gives = λ n. check_bits_of (zeros n ++ 1 ∷ []); should_be = λ n. to_bits 24 0x864cfb }
    -- forty ones code to 120 ones
    ∷ record { gives = λ n. coded (replicate 40 1); should_be = λ n. replicate 120 1 }
    -- a lone 1 at bit 0, in a block of n + 7 bits, sets stream 0 at 0, 2, 3, 5, 6
    ∷ record {
      gives = λ n. stream (taps_of 0) (1 ∷ zeros (n + 6));
      should_be = λ n. (1 ∷ 0 ∷ 1 ∷ 1 ∷ 0 ∷ 1 ∷ 1 ∷ []) ++ zeros n;
    }
    -- with D = 40, interleaving begins with stream 0's bits 9, 25, 17, 1, 33
    ∷ record { gives = λ n. take 5 (places 40); should_be = λ n. 9 ∷ 25 ∷ 17 ∷ 1 ∷ 33 ∷ [] }
    -- with n = 120 and E = 320, word bit 319 is block bit 79
    ∷ record { gives = λ n. slice_index (ring 120 320) 319 ∷ []; should_be = λ n. 79 ∷ [] }
    -- RNTI 1, frame 1, subframe 1, identity 300: seed 25,388
    ∷ record { gives = λ n. seed_of 300 1 (record { frame = 1; subframe = 1 }) ∷ []; should_be = λ n. 25388 ∷ [] }
    -- identity 300, slot 6, symbol 5: reference seed 33,848,921
    ∷ record { gives = λ n. reference_seed 300 6 5 ∷ []; should_be = λ n. 33848921 ∷ [] }
    -- bits 1, 0 give I = -1,448 and Q = +1,448
    ∷ record {
      gives = λ n. signed (fixed_kind.point true false).i ++ signed (fixed_kind.point true false).q;
      should_be = λ n. 1 ∷ 1448 ∷ 0 ∷ 1448 ∷ [];
    }
    -- N = 1 covers A = 80, not 88; N = 10 covers 1,040, not 1,048
    ∷ record {
      gives = λ n. covered 80 320 ∷ covered 88 320 ∷ covered 1040 3200 ∷ covered 1048 3200 ∷ [];
      should_be = λ n. 1 ∷ 0 ∷ 1 ∷ 0 ∷ [];
    }
    ∷ []

abbrev pub Holds : Figure → Type 0
Holds f = (n : ℕ) → f.gives n ≡ f.should_be n

unfoldable pub FiguresHold : Type 0
FiguresHold = AllByRecursion Holds figures
