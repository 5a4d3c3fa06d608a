-- The buffers of an accepted subframe, once zeroed. Assumes nothing.
use Rattle.std.proofs.Common.{◌≡◌, ℕ, false, not, eqb, List, [], ◌∷◌, length, None}
use Rattle.std.proofs.lemmas.List.{length-replicate}
use Rattle.stage.specs.Bits.{zeros}
use Rattle.stage.specs.Refusals.{short}
use Rattle.air.specs.declared.fault.EndFault.TheVariants.{ShortBuffer, GridSize}
use Rattle.air.specs.Refusals.{subframe_refusal}
use Rattle.air.proofs.Ordered.{all_pass}

-- they are long enough still
pub long_zeros : (work side : List ℕ) (points : ℕ) → None ≡ subframe_refusal work side points
    → short (zeros (length work)) (zeros (length side)) ≡ false
unfolding subframe_refusal
long_zeros work side points accepted =
    simp length-replicate (all_pass ((short work side, ShortBuffer) ∷ (not (eqb points 168), GridSize) ∷ []) accepted).0
