-- The numbers of a stage's refusals, and the tests behind them in their order. Assumes nothing.
use Rattle.std.specs.Prelude.{ℕ, ◌^◌, Bool, cond, not, ◌&&◌, ◌||◌, List, [], ◌∷◌, length, take, Some, None, Option, ◌==◌, nat_le, nat_lt}
use Rattle.stage.specs.declared.setting.Setting.{Setting}
use Rattle.stage.specs.declared.fault.StageFault.{StageFault}
use Rattle.stage.specs.declared.fault.StageFault.TheVariants.{ShortBuffer, BadSetting, NoWord, NotCovering, NotBits, NoBlock}
use Rattle.stage.specs.Bits.{binary}

abbrev pub fault_number : StageFault → ℕ
fault_number ShortBuffer = 4
fault_number BadSetting = 5
fault_number NoWord = 6
fault_number NotCovering = 7
fault_number NotBits = 8
fault_number NoBlock = 9

-- a test that says true turns the call down with its fault: the first one that does so
abbrev pub first_fault : {F : Type 0} → List (Bool × F) → Option F
first_fault [] = None
first_fault (t ∷ ts) = cond t.0 (Some t.1) (first_fault ts)

-- an output length from 1 to 7,680, and a seed below 2^31
abbrev pub ranged : Setting → Bool
ranged s = nat_lt 0 s.output && (nat_le s.output 7680 && nat_lt s.seed (2 ^ 31))

abbrev pub short : List ℕ → List ℕ → Bool
short work side = nat_lt (length work) 7680 || nat_lt (length side) 7680

-- what every call makes first; m is the word length
abbrev pub opening_tests : Setting → ℕ → List ℕ → List ℕ → List (Bool × StageFault)
opening_tests s m work side =
    (short work side, ShortBuffer) ∷ (not (ranged s), BadSetting) ∷ ((m == 0), NoWord) ∷ []

-- of `forward`, at blocks of n bits
abbrev pub forward_tests : ℕ → Setting → ℕ → List ℕ → List ℕ → List (Bool × StageFault)
forward_tests n s m work side =
    (short work side, ShortBuffer) ∷ (not (ranged s), BadSetting) ∷ ((m == 0), NoWord)
    ∷ (not (binary (take n work)), NotBits) ∷ []

-- of `back`; c is the mark
abbrev pub back_tests : Setting → ℕ → Bool → List ℕ → List ℕ → List (Bool × StageFault)
back_tests s m c work side =
    (short work side, ShortBuffer) ∷ (not (ranged s), BadSetting) ∷ ((m == 0), NoWord)
    ∷ (not c, NotCovering) ∷ (not (binary (take m work)), NotBits) ∷ []
