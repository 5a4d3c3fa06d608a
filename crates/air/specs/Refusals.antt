-- The tests of the calls of a cell and a terminal, in their order. Assumes nothing.
use Rattle.std.specs.Prelude.{ℕ, Bool, not, ◌&&◌, List, [], ◌∷◌, ◌++◌, length, take, Some, None, Ok, Err, Option, Result, ◌==◌}
use Rattle.stage.specs.declared.fault.StageFault.TheVariants.{NoWord, NotCovering, NotBits}
use Rattle.stage.specs.Bits.{binary, zeros}
use Rattle.stage.specs.Meaning.{Meaning}
use Rattle.stage.specs.Refusals.{first_fault, short}
use Rattle.calendar.specs.declared.grant.Grant.{Grant}
use Rattle.calendar.specs.declared.fault.GrantFault.TheVariants.{Rnti, SubframeCount, Repetitions, BlockLength}
use Rattle.calendar.specs.Grants.{rnti_allowed, count_allowed, repetitions_allowed, length_allowed, output}
use Rattle.air.specs.declared.fault.EndFault.{EndFault}
use Rattle.air.specs.declared.fault.EndFault.TheVariants.{ShortBuffer, Grant as BadGrant, Pending, WordLength, Chain, GridSize, NoGrant}

-- what stands after a call: as before where it was refused
abbrev pub settled : {X : Type 0} → Option EndFault → X → X → X
settled None before then = then
settled (Some f) before then = before

-- what a call makes of a buffer: an accepted one zeroes it
abbrev pub cleared : Option EndFault → List ℕ → List ℕ
cleared refused buffer = settled refused buffer (zeros (length buffer))

-- what a call answers
abbrev pub answered : {X : Type 0} → Option EndFault → X → Result X EndFault
answered None x = Ok x
answered (Some f) x = Err f

-- the tests of a grant at an end with that chain: 10 to 15, and the chain's own 6 inside 16; busy where a grant is pending
abbrev pub grant_tests : Meaning → Bool → Grant → List (Bool × EndFault)
grant_tests m busy g =
    (not (rnti_allowed g), BadGrant Rnti) ∷ (not (count_allowed g), BadGrant SubframeCount)
    ∷ (not (repetitions_allowed g), BadGrant Repetitions) ∷ (not (length_allowed g), BadGrant BlockLength)
    ∷ (busy, Pending)
    ∷ (not (m.size g.length (output g) == 0) && not (m.size g.length (output g) == output g), WordLength)
    ∷ ((m.size g.length (output g) == 0), Chain NoWord) ∷ []

-- of `offer`: 4 first, and the chain's own 8 last
unfoldable pub offer_refusal : Meaning → Bool → Grant → List ℕ → List ℕ → Option EndFault
offer_refusal m busy g work side =
    first_fault ((short work side, ShortBuffer) ∷ grant_tests m busy g ++ ((not (binary (take g.length work)), Chain NotBits) ∷ []))

-- of `expect`: the chain's own 7 last
unfoldable pub expect_refusal : Meaning → Bool → Grant → Option EndFault
expect_refusal m busy g = first_fault (grant_tests m busy g ++ ((not (m.covers g.length (output g)), Chain NotCovering) ∷ []))

-- of `subframe`, with a grid of so many points
unfoldable pub subframe_refusal : List ℕ → List ℕ → ℕ → Option EndFault
subframe_refusal work side points = first_fault ((short work side, ShortBuffer) ∷ (not (points == 168), GridSize) ∷ [])

-- of `withdraw`, and of its counterpart at a terminal
unfoldable pub end_refusal : Bool → Option EndFault
end_refusal busy = first_fault ((not busy, NoGrant) ∷ [])
