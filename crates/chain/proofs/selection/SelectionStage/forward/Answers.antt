use Rattle.chain.specs.Selects.{select_forward}
use Rattle.chain.proofs.selection.SelectionStage.forward.Goals as goal

pub returns : goal.returns
returns c =
    select_forward c.args.n c.args.s c.args.work.now c.args.side.now c.length-m.result c.length-m.ensures c.in_ok-admit_forward.ensures
    c.repeat.new.bits c.clear_from.new.buffer c.drop-guard.new.self.0 c.repeat.ensures c.clear_from.ensures c.drop-guard.ensures
