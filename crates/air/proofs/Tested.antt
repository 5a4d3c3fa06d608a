-- A grant's own tests among those of a call. Assumes nothing.
use Rattle.std.proofs.Common.{◌≡◌, ℕ, Bool, true, false, cond, not, List, [], ◌∷◌, ◌++◌, take, Some, None, Option, arith}
use Rattle.std.proofs.lemmas.Bool.{not-false}
use Rattle.std.proofs.lemmas.Bool.Decides.{nat_tests}
use Rattle.stage.specs.declared.fault.StageFault.TheVariants.{NotBits}
use Rattle.stage.specs.Bits.{binary}
use Rattle.stage.specs.Meaning.{Meaning}
use Rattle.stage.specs.Refusals.{short}
use Rattle.calendar.specs.declared.fault.GrantFault.{GrantFault}
use Rattle.calendar.specs.declared.fault.GrantFault.TheVariants.{Rnti, SubframeCount, Repetitions, BlockLength}
use Rattle.calendar.specs.declared.grant.Grant.{Grant}
use Rattle.calendar.specs.Grants.{rnti_allowed, count_allowed, repetitions_allowed, length_allowed, grant_refusal}
use Rattle.air.specs.declared.fault.EndFault.{EndFault}
use Rattle.air.specs.declared.fault.EndFault.TheVariants.{ShortBuffer, Grant as BadGrant, Chain}
use Rattle.air.specs.Fits.{fits}
use Rattle.air.specs.Refusals.{grant_tests, expect_refusal, offer_refusal}
use Rattle.air.proofs.Ordered.{all_pass}

-- one of them that stops a call does so whatever comes after
four_stop : (a b c d : Bool) (f : GrantFault) (rest : Option EndFault)
    → Some f ≡ cond (not a) (Some Rnti) (cond (not b) (Some SubframeCount) (cond (not c) (Some Repetitions) (cond (not d) (Some BlockLength) None)))
    → Some (BadGrant f)
    ≡ cond (not a) (Some (BadGrant Rnti))
    (cond (not b) (Some (BadGrant SubframeCount)) (cond (not c) (Some (BadGrant Repetitions)) (cond (not d) (Some (BadGrant BlockLength)) rest)))
four_stop false b c d f rest h = grind arith
four_stop true false c d f rest h = grind arith
four_stop true true false d f rest h = grind arith
four_stop true true true false f rest h = grind arith
four_stop true true true true f rest h = grind arith

module _ (m : Meaning) (busy : Bool) (g : Grant) (f : GrantFault) (refused : Some f ≡ grant_refusal g) where
  pub expect_stops : Some (BadGrant f) ≡ expect_refusal m busy g
  unfolding expect_refusal
  expect_stops = four_stop (rnti_allowed g) (count_allowed g) (repetitions_allowed g) (length_allowed g) f _ refused

  pub offer_stops : (work side : List ℕ) → short work side ≡ false → Some (BadGrant f) ≡ offer_refusal m busy g work side
  unfolding offer_refusal
  offer_stops work side roomy =
      rw roomy (four_stop (rnti_allowed g) (count_allowed g) (repetitions_allowed g) (length_allowed g) f _ refused)

-- the chain fits the grant of an accepted offer, and its block is made of bits
pub offer_shows : (m : Meaning) (busy : Bool) (g : Grant) (work side : List ℕ) → None ≡ offer_refusal m busy g work side
    → (fits m g ≡ true) × (binary (take g.length work) ≡ true)
unfolding offer_refusal
offer_shows m busy g work side h =
    let p = all_pass ((short work side, ShortBuffer) ∷ grant_tests m busy g ++ ((not (binary (take g.length work)), Chain NotBits) ∷ [])) h in
    let q = p.1.1.1.1.1.1 in
    (grind (arith, nat_tests, q.0, q.1.0), not-false (binary (take g.length work)) q.1.1.0)
