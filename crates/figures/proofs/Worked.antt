-- The figures hold, each by its definition or by the theorem at every length. Assumes nothing.
use Rattle.std.proofs.Common.{◌≡◌, ℕ, ◌+◌, ◌-◌, [], ◌∷◌, ◌++◌, refl, arith}
use Rattle.stage.specs.Bits.{zeros}
use Rattle.tail_biting.specs.Coding.{stream, taps_of}
use Rattle.check_bits.proofs.CheckFigures.{zero_check, last_check}
use Rattle.tail_biting.proofs.CodeFigures.{forty_ones, lone_one}
use Rattle.interleaver.specs.Cells.{first_of_forty}
use Rattle.figures.specs.Figures.{figures, FiguresHold}

lone_one_at : (n : ℕ) → stream (taps_of 0) (1 ∷ zeros (n + 6)) ≡ (1 ∷ 0 ∷ 1 ∷ 1 ∷ 0 ∷ 1 ∷ 1 ∷ []) ++ zeros n
lone_one_at n =
    let a : n + 7 - 1 ≡ n + 6 = omega arith in
    let b : n + 7 - 7 ≡ n = omega arith in
    rw (a, b) at (lone_one (n + 7) (omega arith))

pub figures_hold : FiguresHold
unfolding FiguresHold figures
figures_hold =
    (zero_check, (last_check, ((λ n. forty_ones), (lone_one_at, ((λ n. first_of_forty), ((λ n. refl), ((λ n. refl), ((λ n. refl), ((λ n. refl), ((λ n. refl), tt))))))))))
