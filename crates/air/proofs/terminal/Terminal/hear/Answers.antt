use Rattle.std.proofs.Common.{◌≡◌, Bool, true, not, ◌&&◌, [], ◌∷◌, None, is_some, sym, ap, ◌∙◌, ap₂, rules}
use Rattle.std.specs.Option.{option_map}
use Rattle.stage.specs.Refusals.{first_fault}
use Rattle.grid.specs.Grids.{aired_bits}
use Rattle.calendar.specs.declared.identity.Identity.{Identity}
use Rattle.calendar.specs.declared.time.Time.{Time}
use Rattle.calendar.specs.Identities.{number_of}
use Rattle.calendar.specs.Courses.{going_of}
use Rattle.calendar.specs.Times.{after, closed}
use Rattle.air.specs.declared.fault.EndFault.TheVariants.{NoPair}
use Rattle.air.specs.Ends.{End}
use Rattle.air.specs.Terminals.{TerminalState, Hearing, with_awaited, due, hear_refusal}
use Rattle.air.specs.TerminalViews.{awaiting_of, terminal_of, is_due}
use Rattle.air.proofs.Heard.{due_now, aired_heard}
use Rattle.air.proofs.terminal.Terminal.hear.Goals as goal

pub returns-clause-refusal : goal.returns-clause-refusal
unfolding hear_refusal
returns-clause-refusal g c =
    let self = c.args.self.now in
    let t = terminal_of g.S.Stage.meaning self in
    let shut = closed t.time in
    let o = option_map going_of c.current-awaited.result in
    let due_is = due_now shut c.is_open.result (c.is_open.ensures ∙ ap (λ (x : Time). not (closed x)) c.time.ensures) o c.slot_for-slot.result c.slot_for-slot.ensures self.word in
    let there = is_some (aired_bits g.P.Point.kind t.identity c.args.grid.now) in
    let room = c.in_ok-check_block.ensures self.word in
    let pair : None ≡ first_fault ((due shut (option_map (awaiting_of self.word) o) && not there, NoPair) ∷ []) =
    c.in_ok-bits.ensures.refusal
    ∙ ap₂ (λ (v : Bool) (i : Identity). first_fault ((v && not (is_some (aired_bits g.P.Point.kind (number_of i) c.args.grid.now)), NoPair) ∷ [])) due_is c.known.ensures in
    rw (sym c.current-awaited.ensures) (search rules)

pub returns-clause-terminal : goal.returns-clause-terminal
returns-clause-terminal g c =
    let self = c.args.self.now in
    let t = terminal_of g.S.Stage.meaning self in
    let o = option_map going_of c.current-awaited.result in
    let aired = λ (d : is_due c.slot_for-slot.result ≡ true). c.in_ok-bits.ensures.bits d ∙ ap (λ (i : Identity). aired_bits g.P.Point.kind (number_of i) c.args.grid.now) c.known.ensures in
    let is =
    aired_heard (closed t.time) c.is_open.result (c.is_open.ensures ∙ ap (λ (x : Time). not (closed x)) c.time.ensures) o c.slot_for-slot.result c.slot_for-slot.ensures self.word t.identity t.chain
    c.in_ok-bits.bits c.args.block.now (aired_bits g.P.Point.kind t.identity c.args.grid.now) aired in
    let terminal = ap (λ x. x.2) c.take_in-outcome.ensures ∙ (rw (sym c.current-awaited.ensures) (ap (λ (h : Hearing). with_awaited t h.awaited) is)) in
    ap₂ (λ (x : TerminalState) (u : End). record { identity = u.identity; time = u.time; chain = x.chain; awaited = x.awaited }) terminal
    (c.step.ensures ∙ ap (λ (x : TerminalState). record { identity = x.identity; time = after x.time }) terminal)

pub returns-clause-block : goal.returns-clause-block
returns-clause-block g c =
    let self = c.args.self.now in
    let t = terminal_of g.S.Stage.meaning self in
    let o = option_map going_of c.current-awaited.result in
    let aired = λ (d : is_due c.slot_for-slot.result ≡ true). c.in_ok-bits.ensures.bits d ∙ ap (λ (i : Identity). aired_bits g.P.Point.kind (number_of i) c.args.grid.now) c.known.ensures in
    let is =
    aired_heard (closed t.time) c.is_open.result (c.is_open.ensures ∙ ap (λ (x : Time). not (closed x)) c.time.ensures) o c.slot_for-slot.result c.slot_for-slot.ensures self.word t.identity t.chain
    c.in_ok-bits.bits c.args.block.now (aired_bits g.P.Point.kind t.identity c.args.grid.now) aired in
    ap (λ x. x.1) c.take_in-outcome.ensures ∙ (rw (sym c.current-awaited.ensures) (ap (λ (h : Hearing). h.buffer) is))
