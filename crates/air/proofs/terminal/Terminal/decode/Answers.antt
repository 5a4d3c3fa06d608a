use Rattle.std.proofs.Common.{◌≡◌, true, refl}
use Rattle.std.proofs.lemmas.Bool.{and_parts}
use Rattle.stage.proofs.Past.{same-room}
use Rattle.air.specs.Fits.{fits, mark}
use Rattle.air.proofs.Coding.{sized, block_decoded}
use Rattle.air.proofs.terminal.Terminal.decode.Goals as goal

pub returns-clause-block : goal.returns-clause-block
returns-clause-block g c =
    let self = c.args.self.now in
    let m = g.S.Stage.meaning self.chain in
    let n = c.length in
    let s = c.round_setting-setting in
    let fit = and_parts (fits m c.args.course.grant) (mark m c.args.course.grant) c.requires.covered in
    let size = sized m c.args.course.grant fit.0 n.result s.result.output n.ensures.value s.ensures.output in
    let covers : m.covers n.result s.result.output ≡ true = let k = fit.1 in let a = n.ensures.value in let b = s.ensures.output in cc in
    let room = same-room c.args.work.now c.args.side.now c.copy_front.new.to c.args.side.now c.copy_front.auto.to refl c.requires.roomy in
    let is =
    block_decoded (g.met.S.Stage.lawful self.chain) n.result s.result size s.ensures.range c.copy_front.new.to c.args.side.now room
    c.back.new.work c.back.new.side c.back.result covers c.back.ensures in
    let front = c.copy_front.ensures.front in
    let a = n.ensures.value in
    let b = s.ensures.output in
    let d = s.ensures.seed in
    let e = c.output.ensures.value in
    cc
