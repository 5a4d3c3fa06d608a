use Rattle.std.proofs.Common.{rules}
use Rattle.std.specs.Option.{option_map}
use Rattle.calendar.specs.Courses.{going_of}
use Rattle.air.proofs.Kept.{mark_kept}
use Rattle.air.proofs.cell.Cell.is_covered.Goals as goal

pub returns : goal.returns
returns g c =
    let self = c.args.self.now in
    mark_kept (g.S.Stage.meaning self.chain) self.block (option_map going_of self.pending) c.current.result c.is_some_and.result c.current.ensures
    (λ none. search rules) (λ v some. search rules)
