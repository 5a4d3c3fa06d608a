-- Worked figures of the reference elements.
use Rattle.std.proofs.Common.{◌≡◌, [], ◌∷◌, refl}
use Rattle.gold.specs.Sequence.{gold, x₁, x₂, window}
use Rattle.grid.specs.References.{reference_seed, reference_bits}

pub seed_figure : reference_seed 300 6 5 ≡ 33848921
seed_figure = refl

-- identity 300, subframe 3: both elements of symbols 5, 6, 12 and 13
pub reference_figures : reference_bits 300 3 ≡ 0 ∷ 0 ∷ 0 ∷ 0 ∷ 0 ∷ 1 ∷ 0 ∷ 0 ∷ 1 ∷ 0 ∷ 1 ∷ 1 ∷ 0 ∷ 1 ∷ 0 ∷ 0 ∷ []
unfolding reference_bits gold x₁ x₂ window
reference_figures = refl
