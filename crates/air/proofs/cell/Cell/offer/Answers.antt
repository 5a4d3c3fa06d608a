use Rattle.std.proofs.Common.{take, ap, ◌∙◌}
use Rattle.stage.specs.Bits.{binary}
use Rattle.calendar.specs.Courses.{Going}
use Rattle.air.proofs.Kept.{offers}
use Rattle.air.proofs.Tested.{offer_shows}
use Rattle.air.proofs.cell.Cell.offer.Goals as goal

pub note-requires-clause-bits : goal.note-requires-clause-bits
note-requires-clause-bits g c =
    let made = c.in_ok-course.ensures in
    ap (λ (x : Going). binary (take x.grant.length c.args.work.now)) made.accepted
    ∙ (offer_shows _ _ c.args.grant c.args.work.now c.args.side.now made.refusal).1

pub returns-clause-cell : goal.returns-clause-cell
returns-clause-cell g c =
    let made = c.in_ok-course.ensures in
    let n = c.note.ensures in
    offers g.S.Stage.meaning c.args.self.now c.note.new.self c.in_ok-course.course c.args.grant c.args.work.now made.accepted
    (offer_shows _ _ c.args.grant c.args.work.now c.args.side.now made.refusal).0 n.end n.chain n.pending n.block
