-- What an accepted offer shows, and that its grant is expected where it is covered. Assumes nothing.
use Rattle.std.proofs.Common.{◌≡◌, ℕ, Bool, true, false, not, List, [], ◌∷◌, ◌++◌, take, None, sym, arith}
use Rattle.std.proofs.lemmas.Bool.{not-false}
use Rattle.std.proofs.lemmas.Bool.Decides.{nat_tests}
use Rattle.std.proofs.lemmas.List.{length-take-le}
use Rattle.stage.specs.declared.fault.StageFault.TheVariants.{NotBits}
use Rattle.stage.specs.Bits.{Bits, binary}
use Rattle.stage.specs.Meaning.{Meaning}
use Rattle.stage.specs.Refusals.{short}
use Rattle.calendar.specs.declared.grant.Grant.{Grant}
use Rattle.calendar.specs.Grants.{Allowed, rnti_allowed, count_allowed, repetitions_allowed, length_allowed, output}
use Rattle.calendar.proofs.Counting.{count_some}
use Rattle.air.specs.declared.fault.EndFault.TheVariants.{ShortBuffer, Chain}
use Rattle.air.specs.Refusals.{grant_tests, offer_refusal, expect_refusal}
use Rattle.air.proofs.Ordered.{all_pass}

-- the grant is allowed, the chain's word has its length, and its block is bits
pub record Admitted (m : Meaning) (g : Grant) (block : List ℕ) : Type 0 where
  pub allowed : Allowed g
  pub size : m.size g.length (output g) ≡ output g
  pub bits : Bits g.length block

pub offer_admits : (m : Meaning) (busy : Bool) (g : Grant) (work side : List ℕ) → offer_refusal m busy g work side ≡ None
    → (busy ≡ false) × Admitted m g (take g.length work)
unfolding offer_refusal
offer_admits m busy g work side h =
    let p = all_pass ((short work side, ShortBuffer) ∷ grant_tests m busy g ++ ((not (binary (take g.length work)), Chain NotBits) ∷ [])) (sym h) in
    let q = p.1.1.1.1 in
    let sized = not-false (length_allowed g) q.0 in (
      q.1.0,
      record {
        allowed = record {
          called = not-false (rnti_allowed g) p.1.0;
          counted = not-false (count_allowed g) p.1.1.0;
          repeated = not-false (repetitions_allowed g) p.1.1.1.0;
          sized = sized;
        };
        size = grind (arith, nat_tests, q.1.1.0, q.1.1.1.0);
        bits = (length-take-le g.length work (grind (arith, nat_tests, p.0, sized)), not-false (binary (take g.length work)) q.1.1.1.1.0);
      },
    )

pub expect_accepts : (m : Meaning) (g : Grant) (block : List ℕ) → Admitted m g block → m.covers g.length (output g) ≡ true
    → expect_refusal m false g ≡ None
unfolding expect_refusal
expect_accepts m g block a cov =
    let n = count_some g a.allowed.counted in
    rw (a.allowed.called, a.allowed.counted, a.allowed.repeated, a.allowed.sized, a.size, cov) (grind (arith, nat_tests))
