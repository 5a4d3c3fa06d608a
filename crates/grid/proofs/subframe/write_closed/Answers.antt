use Rattle.std.proofs.Common.{rules, replicate, ap, ◌∙◌}
use Rattle.grid.specs.Grids.{vacant}
use Rattle.grid.proofs.Blanks.{filled}
use Rattle.grid.proofs.subframe.write_closed.Goals as goal

pub returns : goal.returns
unfolding vacant
returns g c =
    filled _ g.P.Point.kind.blank _ (λ x j k. search rules) c.fill_with.new.self _ c.fill_with.ensures.ran.1 ∙ ap (λ n. replicate n g.P.Point.kind.blank) c.fill_with.ensures.len
