use Rattle.std.proofs.Common.{[], sym}
use Rattle.std.proofs.lemmas.Result.{err_from_is_err_and}
use Rattle.stage.specs.Refusals.{short}
use Rattle.stage.proofs.Opened.{first_none}
use Rattle.air.specs.declared.fault.EndFault.TheVariants.{ShortBuffer}
use Rattle.air.proofs.Tested.{offer_stops}
use Rattle.air.proofs.cell.Cell.admit.Goals as goal

pub returns-in_err-course-clause-refusal : goal.returns-in_err-course-clause-refusal
returns-in_err-course-clause-refusal g c =
    let p = err_from_is_err_and c.from_residual-in_err-course.result c.from_residual-in_err-course.ensures.1 in
    let roomy = (first_none (short c.args.work.now c.args.side.now) ShortBuffer [] (sym c.in_ok-check_buffers.ensures)).0 in
    rw (p.1, p.2) (offer_stops _ _ c.args.grant _ c.in_err-course.ensures.refusal c.args.work.now c.args.side.now roomy)
