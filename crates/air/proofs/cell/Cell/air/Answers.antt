use Rattle.std.proofs.Common.{ℕ, List, sym, ap, ◌∙◌, ap₂}
use Rattle.std.specs.Option.{option_map}
use Rattle.grid.specs.Grids.{carrying}
use Rattle.calendar.specs.Courses.{going_of}
use Rattle.air.specs.Cells.{CellState, Written, part_due, part_of, with_pending}
use Rattle.air.specs.CellViews.{sending_of, cell_of}
use Rattle.air.proofs.Kept.{counts, bits_kept, bits_next, fitting_next}
use Rattle.air.proofs.Writing.{airs_data, part_in}
use Rattle.air.proofs.cell.Cell.air.Goals as goal

pub invariant_of-self : goal.invariant_of-self
invariant_of-self g c =
    let self = c.args.self.now in
    let going = going_of c.in-Some.course in
    let kept = counts (g.S.Stage.meaning self.chain) (option_map going_of self.pending) going c.in-Some.ensures in
    record { bits = bits_next self.block going c.advanced-self.result c.advanced-self.ensures (bits_kept self.block self.pending going kept.0 self.bits) }

pub returns-clause-grid : goal.returns-clause-grid
returns-clause-grid g c =
    let self = c.args.self.now in
    let going = going_of c.in-Some.course in
    let K = g.P.Point.kind in
    let cell : CellState = cell_of g.S.Stage.meaning self in
    let airs_is = airs_data K cell (sending_of self.block going) (rw c.time-time.ensures at (sym c.is_open.ensures ∙ c.if-not-is_open.false))
    (ap (option_map (sending_of self.block)) c.in-Some.ensures) in
    rw (c.known-identity.ensures, c.time-time.ensures) at c.write_data.ensures.after
    ∙ ap₂ (λ (n : ℕ) (b : List ℕ). carrying K n cell.identity cell.time.subframe b) c.requires.whole
    (part_in going.grant.subframes (part_due going) c.part_start-from.result c.encode.new.work
    c.part_start-from.ensures.value c.part_start-from.ensures.within
    ∙ ap (part_of (part_due going)) c.encode.ensures.word)
    ∙ ap (λ (w : Written g.row.P.Denot). w.grid) airs_is

pub returns-clause-cell : goal.returns-clause-cell
returns-clause-cell g c =
    let self = c.args.self.now in
    let going = going_of c.in-Some.course in
    let m = g.S.Stage.meaning self.chain in
    let K = g.P.Point.kind in
    let cell : CellState = cell_of g.S.Stage.meaning self in
    let kept = counts m (option_map going_of self.pending) going c.in-Some.ensures in
    let airs_is = airs_data K cell (sending_of self.block going) (rw c.time-time.ensures at (sym c.is_open.ensures ∙ c.if-not-is_open.false))
    (ap (option_map (sending_of self.block)) c.in-Some.ensures) in
    ap (with_pending cell)
    (fitting_next m self.block going (option_map going_of c.advanced-self.result) kept.1 c.advanced-self.ensures
    ∙ ap (λ (w : Written g.row.P.Denot). w.pending) airs_is)
