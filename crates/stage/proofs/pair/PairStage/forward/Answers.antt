use Rattle.stage.specs.Meaning.{paired}
use Rattle.stage.proofs.Opened.{admitted}
use Rattle.stage.proofs.PairCalls.{pair_forward}
use Rattle.stage.proofs.pair.PairStage.forward.Goals as goal

pub returns : goal.returns
returns g c =
    pair_forward (g.met.A.Stage.lawful c.args.self.now.first) (g.met.B.Stage.lawful c.args.self.now.second)
    c.args.n c.args.s c.args.work.now c.args.side.now
    (admitted (paired (g.A.Stage.meaning c.args.self.now.first) (g.B.Stage.meaning c.args.self.now.second))
    c.args.n c.args.s c.args.work.now c.args.side.now c.length.result c.length.ensures c.in_ok-admit.ensures)
    c.forward.new.work c.forward.new.side c.in_ok-m.m c.in_ok-m.ensures
    c.forward-2.new.work c.forward-2.new.side c.forward-2.result c.forward-2.ensures
