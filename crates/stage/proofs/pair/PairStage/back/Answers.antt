use Rattle.stage.proofs.PairCalls.{back_stops, back_finds, back_lacks, back_again}
use Rattle.std.proofs.lemmas.Result.{err_from_is_err_and}
use Rattle.stage.proofs.pair.PairStage.back.Goals as goal

pub returns-in_err-back : goal.returns-in_err-back
returns-in_err-back g c =
    let p = err_from_is_err_and c.from_residual-in_err-back.result c.from_residual-in_err-back.ensures.1 in
    rw (p.1, p.2)
    (back_stops (g.met.A.Stage.lawful c.args.self.now.first) (g.met.B.Stage.lawful c.args.self.now.second)
    c.args.n c.args.s c.args.work.now c.args.side.now c.length.result c.length-m.result
    c.length.ensures c.in_ok-admit.ensures c.length-m.ensures c.if-not-covers.ensures
    c.back.new.work c.back.new.side
    c.in_err-back.field-0.0 c.in_err-back.ensures)

pub returns-in_err-forward-in-Err : goal.returns-in_err-forward-in-Err
returns-in_err-forward-in-Err g c =
    back_again (g.met.A.Stage.lawful c.args.self.now.first) (g.met.B.Stage.lawful c.args.self.now.second)
    c.args.n c.args.s c.args.work.now c.args.side.now c.length.result c.length-m.result
    c.length.ensures c.in_ok-admit.ensures c.length-m.ensures c.if-not-covers.ensures
    c.back.new.work c.back.new.side
    c.in_ok-back.field-0 c.in_ok-back.ensures
    c.back-2.new.work c.back-2.new.side c.in-Err.fault c.in-Err.ensures
    c.forward.new.work c.forward.new.side c.forward.result c.forward.ensures
    c.in_err-forward-in-Err.field-0.0 c.in_err-forward-in-Err.was

pub returns-in-Ok : goal.returns-in-Ok
returns-in-Ok g c =
    back_finds (g.met.A.Stage.lawful c.args.self.now.first) (g.met.B.Stage.lawful c.args.self.now.second)
    c.args.n c.args.s c.args.work.now c.args.side.now c.length.result c.length-m.result
    c.length.ensures c.in_ok-admit.ensures c.length-m.ensures c.if-not-covers.ensures
    c.back.new.work c.back.new.side
    c.in_ok-back.field-0 c.in_ok-back.ensures
    c.back-2.new.work c.back-2.new.side c.in-Ok.length c.in-Ok.ensures

pub returns-in_ok-forward-in-Err : goal.returns-in_ok-forward-in-Err
returns-in_ok-forward-in-Err g c =
    back_lacks (g.met.A.Stage.lawful c.args.self.now.first) (g.met.B.Stage.lawful c.args.self.now.second)
    c.args.n c.args.s c.args.work.now c.args.side.now c.length.result c.length-m.result
    c.length.ensures c.in_ok-admit.ensures c.length-m.ensures c.if-not-covers.ensures
    c.back.new.work c.back.new.side
    c.in_ok-back.field-0 c.in_ok-back.ensures
    c.back-2.new.work c.back-2.new.side c.in-Err.fault c.in-Err.ensures
    c.forward.new.work c.forward.new.side c.forward.result c.forward.ensures
