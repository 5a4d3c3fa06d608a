use Rattle.tail_biting.specs.TailBites.{code_forward}
use Rattle.tail_biting.proofs.TailBitingCodeStage.forward.Goals as goal

pub returns : goal.returns
returns c =
    code_forward c.args.n c.args.s c.args.work.now c.args.side.now c.length-m.result c.length-m.ensures
    c.in_ok-admit_forward.ensures c.encode.new.work c.drop-guard.new.self.0 c.encode.new.side
    c.encode.auto.side c.encode.ensures c.drop-guard.ensures
