use Rattle.std.proofs.Common.{ℕ, ◌++◌, take, drop, sym, ap, ◌∙◌}
use Rattle.std.specs.Option.{option_map}
use Rattle.calendar.specs.Courses.{going_of}
use Rattle.air.specs.Terminals.{Hearing, with_awaited}
use Rattle.air.specs.TerminalViews.{terminal_of, covered_by}
use Rattle.air.proofs.Parted.{covered_is, part_heard, block_heard, spoiled_heard}
use Rattle.air.proofs.terminal.Terminal.read_part.Goals as goal

pub decode-requires-clause-covered : goal.decode-requires-clause-covered
decode-requires-clause-covered g c =
    let self = c.args.self.now in
    covered_is (g.S.Stage.meaning self.chain) (option_map going_of self.awaited) (going_of c.args.course) c.requires.awaited

pub returns-then-not-is_last_part : goal.returns-then-not-is_last_part
returns-then-not-is_last_part g c =
    let self = c.args.self.now in
    let t = terminal_of g.S.Stage.meaning self in
    let o = option_map going_of self.awaited in
    let covers = covered_is t.chain o (going_of c.args.course) c.requires.awaited in
    let is =
    part_heard t.identity t.chain (going_of c.args.course) _ (covered_by t.chain o) c.requires.awaited covers self.word c.args.bits.now
    c.args.block.now c.requires.slot c.part-part.result c.part-part.ensures.value c.put_part.new.table c.put_part.ensures
    (sym c.if-not-is_last_part.ensures) in
    rw c.advanced-self.ensures (ap (λ (h : Hearing). (h.outcome, h.buffer, with_awaited t h.awaited)) is)

pub returns-in-Ok : goal.returns-in-Ok
returns-in-Ok g c =
    let self = c.args.self.now in
    let t = terminal_of g.S.Stage.meaning self in
    let o = option_map going_of self.awaited in
    let covers = covered_is t.chain o (going_of c.args.course) c.requires.awaited in
    let e = c.in-Ok.ensures in
    let b = take c.in-Ok.n c.decode.new.work in
    let is =
    block_heard t.identity t.chain (going_of c.args.course) _ (covered_by t.chain o) c.requires.awaited covers self.word c.args.bits.now
    c.args.block.now c.requires.slot c.part-part.result c.part-part.ensures.value c.put_part.new.table c.put_part.ensures
    (sym c.if-not-is_last_part.ensures) b e.block in
    let buffer = c.copy_front.ensures.after ∙ ap (λ (k : ℕ). b ++ drop k c.args.block.now) e.length in
    rw (c.advanced-self-in-Ok.ensures, buffer) (ap (λ (h : Hearing). (h.outcome, h.buffer, with_awaited t h.awaited)) is)

pub returns-in-Err : goal.returns-in-Err
returns-in-Err g c =
    let self = c.args.self.now in
    let t = terminal_of g.S.Stage.meaning self in
    let o = option_map going_of self.awaited in
    let covers = covered_is t.chain o (going_of c.args.course) c.requires.awaited in
    let is =
    spoiled_heard t.identity t.chain (going_of c.args.course) _ (covered_by t.chain o) c.requires.awaited covers self.word c.args.bits.now
    c.args.block.now c.requires.slot c.part-part.result c.part-part.ensures.value c.put_part.new.table c.put_part.ensures
    (sym c.if-not-is_last_part.ensures) c.in-Err.ensures.block in
    ap (λ (h : Hearing). (h.outcome, h.buffer, with_awaited t h.awaited)) is
