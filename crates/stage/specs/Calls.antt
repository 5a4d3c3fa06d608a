-- What the four calls of a stage answer, and what they leave in both buffers. Assumes nothing.
use Rattle.std.specs.Prelude.{◌≡◌, ℕ, Bool, cond, ◌&&◌, List, length, take, Ok, Err, Option, Result, nat_lt}
use Rattle.std.specs.Option as options
use Rattle.std.specs.Result as results
use Rattle.stage.specs.declared.setting.Setting.{Setting}
use Rattle.stage.specs.declared.fault.StageFault.{StageFault}
use Rattle.stage.specs.declared.fault.StageFault.TheVariants.{NoBlock}
use Rattle.stage.specs.Bits.{Bits, zeros, padded}
use Rattle.stage.specs.Meaning.{Meaning, word}
use Rattle.stage.specs.Refusals.{ranged, first_fault, forward_tests, back_tests}

-- what `length` answers: the word length, 0 where there is none or the setting is out of range
abbrev pub word_length : Meaning → ℕ → Setting → ℕ
word_length m n s = cond (ranged s) (m.size n s.output) 0

-- what `covers` answers: the mark, no where `length` answers 0
abbrev pub covering : Meaning → ℕ → Setting → Bool
covering m n s = nat_lt 0 (word_length m n s) && m.covers n s.output

abbrev pub forward_refusal : Meaning → ℕ → Setting → List ℕ → List ℕ → Option StageFault
forward_refusal m n s work side = first_fault (forward_tests n s (word_length m n s) work side)

abbrev pub back_refusal : Meaning → ℕ → Setting → List ℕ → List ℕ → Option StageFault
back_refusal m n s work side = first_fault (back_tests s (word_length m n s) (covering m n s) work side)

-- a refusal that leaves both buffers untouched
pub record Untouched (f : StageFault) (work side work' side' : List ℕ) (r : Result ℕ StageFault) : Type 0 where
  pub answer : r ≡ Err f
  pub work_is : work' ≡ work
  pub side_is : side' ≡ side

-- an accepted call: the result stands at the start of the work buffer, and all else is 0
pub record Accepted (result : List ℕ) (work side work' side' : List ℕ) (r : Result ℕ StageFault) : Type 0 where
  pub answer : r ≡ Ok (length result)
  pub work_is : work' ≡ padded result (length work)
  pub side_is : side' ≡ zeros (length side)

-- refusal 9: the word w stands, and all else is 0
pub record Kept (w : List ℕ) (work side work' side' : List ℕ) (r : Result ℕ StageFault) : Type 0 where
  pub answer : r ≡ Err NoBlock
  pub work_is : work' ≡ padded w (length work)
  pub side_is : side' ≡ zeros (length side)

-- b is a block of n bits whose word is w
pub record HasWord (m : Meaning) (n : ℕ) (s : Setting) (w b : List ℕ) : Type 0 where
  pub bits : Bits n b
  pub is : word m n s.output s.seed b ≡ w

-- b is the one block of n bits whose word is w
pub record TheBlock (m : Meaning) (n : ℕ) (s : Setting) (w b : List ℕ) : Type 0 where
  pub has : HasWord m n s w b
  pub only : (x : List ℕ) → HasWord m n s w x → x ≡ b

-- no block of n bits has the word w
abbrev pub NoBlockHas : Meaning → ℕ → Setting → List ℕ → Type 0
NoBlockHas m n s w = (b : List ℕ) → HasWord m n s w b → ⊥

abbrev pub Forward : Meaning → ℕ → Setting → List ℕ → List ℕ → List ℕ → List ℕ → Result ℕ StageFault → Type 0
Forward m n s work side work' side' r =
    options.MatchOption (forward_refusal m n s work side)
    (Accepted (word m n s.output s.seed (take n work)) work side work' side' r)
    (λ f. Untouched f work side work' side' r)

-- past its tests, `back` at the word w finds its block, or says that there is none
abbrev pub Undone : Meaning → ℕ → Setting → List ℕ → List ℕ → List ℕ → List ℕ → List ℕ → Result ℕ StageFault → Type 0
Undone m n s w work side work' side' r =
    results.MatchResult r
    (λ _. (b : List ℕ) × TheBlock m n s w b × Accepted b work side work' side' r)
    (λ _. NoBlockHas m n s w × Kept w work side work' side' r)

abbrev pub Back : Meaning → ℕ → Setting → List ℕ → List ℕ → List ℕ → List ℕ → Result ℕ StageFault → Type 0
Back m n s work side work' side' r =
    options.MatchOption (back_refusal m n s work side)
    (Undone m n s (take (word_length m n s) work) work side work' side' r)
    (λ f. Untouched f work side work' side' r)
