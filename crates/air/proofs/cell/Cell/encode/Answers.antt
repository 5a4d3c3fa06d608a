use Rattle.std.proofs.Common.{◌≡◌, true, length, take, refl, ap, ◌∙◌}
use Rattle.std.specs.Option.{option_map}
use Rattle.std.proofs.lemmas.List.{length-take-le}
use Rattle.stage.specs.Bits.{binary}
use Rattle.stage.proofs.Past.{same-room}
use Rattle.calendar.specs.Courses.{going_of}
use Rattle.air.proofs.Coding.{sized, coded}
use Rattle.air.proofs.Kept.{counts, bits_kept}
use Rattle.air.proofs.cell.Cell.encode.Goals as goal

pub returns : goal.returns
returns g c =
    let self = c.args.self.now in
    let n = c.length-n in
    let s = c.round_setting-setting in
    let going = going_of c.args.course in
    let kept = counts (g.S.Stage.meaning self.chain) (option_map going_of self.pending) going c.requires.pending in
    let size = sized (g.S.Stage.meaning self.chain) going.grant kept.1 n.result s.result.output n.ensures.value s.ensures.output in
    let front = c.copy_front.ensures.front in
    let long = ap length front ∙ length-take-le n.result self.block c.copy_front.ensures.long in
    let bits : binary (take n.result c.copy_front.new.to) ≡ true = let k = bits_kept self.block self.pending going kept.0 self.bits in let a = n.ensures.value in cc in
    let room = same-room c.args.work.now c.args.side.now c.copy_front.new.to c.args.side.now c.copy_front.auto.to refl c.requires.roomy in
    let p =
    coded (g.met.S.Stage.lawful self.chain) n.result s.result size s.ensures.range c.copy_front.new.to c.args.side.now room
    c.forward.new.work c.forward.new.side c.forward.result (long, bits) c.forward.ensures in
    let q = p.0 in
    let w = p.1 in
    let a = n.ensures.value in
    let b = s.ensures.output in
    let d = s.ensures.seed in
    record { answer = cc; word = cc }
