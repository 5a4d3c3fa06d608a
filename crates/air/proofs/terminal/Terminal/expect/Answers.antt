use Rattle.std.proofs.Common.{◌≡◌, true, ap, ◌∙◌, rules}
use Rattle.std.proofs.lemmas.Result.{err_from_is_err_and}
use Rattle.calendar.specs.Courses.{going_of, begun}
use Rattle.air.specs.Fits.{covered}
use Rattle.air.specs.Terminals.{with_awaited}
use Rattle.air.specs.TerminalViews.{terminal_of}
use Rattle.air.proofs.Tested.{expect_stops}
use Rattle.air.proofs.Parted.{begins}
use Rattle.air.proofs.terminal.Terminal.expect.Goals as goal

pub returns-in_err-course-clause-refusal : goal.returns-in_err-course-clause-refusal
returns-in_err-course-clause-refusal g c =
    let p = err_from_is_err_and c.from_residual.result c.from_residual.ensures.1 in
    rw (p.1, p.2) (expect_stops _ _ c.args.grant _ c.in_err-course.ensures.refusal)

pub returns-clause-terminal : goal.returns-clause-terminal
returns-clause-terminal g c =
    let self = c.args.self.now in
    let t = terminal_of g.S.Stage.meaning self in
    let course = going_of c.in_ok-course.course in
    let covers : covered t.chain course.grant ≡ true = search rules in
    let is = c.in_ok-course.ensures.accepted ∙ ap (begun c.args.grant) c.time.ensures in
    ap (with_awaited t) (begins t.chain self.word course c.args.grant t.time covers is)
