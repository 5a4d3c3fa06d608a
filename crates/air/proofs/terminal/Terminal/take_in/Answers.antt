use Rattle.std.proofs.Common.{Option, sym, ap, ◌∙◌}
use Rattle.std.specs.Option.{option_map}
use Rattle.calendar.specs.declared.course.Course.{Course}
use Rattle.calendar.specs.Courses.{going_of}
use Rattle.calendar.specs.Times.{closed}
use Rattle.air.specs.Terminals.{Hearing, with_awaited}
use Rattle.air.specs.TerminalViews.{terminal_of, covered_by, slot_of}
use Rattle.air.proofs.Heard.{closed_heard, idle_heard}
use Rattle.air.proofs.Parted.{covered_is, again_heard}
use Rattle.air.proofs.terminal.Terminal.take_in.Goals as goal

pub returns-in_default-Closed : goal.returns-in_default-Closed
returns-in_default-Closed g c =
    let self = c.args.self.now in
    let t = terminal_of g.S.Stage.meaning self in
    let o = covered_by t.chain (option_map going_of self.awaited) in
    let slot = ap (slot_of (closed t.time)) (sym c.requires.awaited) ∙ sym c.requires.slot ∙ c.in_default-Closed.is-1 in
    ap (λ (h : Hearing). (h.outcome, h.buffer, with_awaited t h.awaited))
    (closed_heard t.identity t.chain self.word c.args.bits.now c.args.block.now (closed t.time) o slot)

pub returns-in-None-default-2 : goal.returns-in-None-default-2
returns-in-None-default-2 g c =
    let self = c.args.self.now in
    let t = terminal_of g.S.Stage.meaning self in
    let o = covered_by t.chain (option_map going_of self.awaited) in
    let slot = ap (slot_of (closed t.time)) (sym c.requires.awaited) ∙ sym c.requires.slot ∙ c.in-None-default.is-1 in
    ap (λ (h : Hearing). (h.outcome, h.buffer, with_awaited t h.awaited))
    (idle_heard t.identity t.chain self.word c.args.bits.now c.args.block.now (closed t.time) o slot)

pub returns-in-Some-Repeat : goal.returns-in-Some-Repeat
returns-in-Some-Repeat g c =
    let self = c.args.self.now in
    let t = terminal_of g.S.Stage.meaning self in
    let a = c.in-Some-Repeat in
    let o = option_map going_of self.awaited in
    let some = sym c.requires.awaited ∙ ap (option_map going_of) a.is-0 in
    let slot = ap (λ (p : Option Course). slot_of (closed t.time) (option_map going_of p)) (sym a.is-0) ∙ sym c.requires.slot ∙ a.is-1 in
    let is =
    again_heard t.identity t.chain (going_of a.course) _ (covered_by t.chain o) some (covered_is t.chain o (going_of a.course) some) self.word
    c.args.bits.now c.args.block.now slot in
    rw c.advanced-self.ensures (ap (λ (h : Hearing). (h.outcome, h.buffer, with_awaited t h.awaited)) is)
