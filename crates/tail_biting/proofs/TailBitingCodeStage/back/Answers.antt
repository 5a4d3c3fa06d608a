use Rattle.std.proofs.lemmas.Result.{err_from_is_err_and}
use Rattle.tail_biting.specs.TailBites.{code_finds, code_lacks}
use Rattle.tail_biting.proofs.TailBitingCodeStage.back.Goals as goal

pub returns-in_err-decode : goal.returns-in_err-decode
returns-in_err-decode c =
    let p = err_from_is_err_and c.from_residual-in_err-decode.result c.from_residual-in_err-decode.ensures.1 in
    let e = c.in_err-decode.ensures in
    rw (p.1, p.2)
    (code_lacks c.args.n c.args.s c.args.work.now c.args.side.now c.length-m.result c.length-m.ensures
    c.covers.result c.covers.ensures c.in_ok-admit_back.ensures
    c.decode.new.work c.drop-guard.new.self.0 c.decode.new.side c.decode.auto.side c.drop-guard.ensures
    c.in_err-decode.field-0.0 e.fault e.lacking e.word)

pub returns : goal.returns
returns c =
    let e = c.in_ok-decode.ensures in
    code_finds c.args.n c.args.s c.args.work.now c.args.side.now c.length-m.result c.length-m.ensures
    c.covers.result c.covers.ensures c.in_ok-admit_back.ensures
    c.decode.new.work c.drop-guard-2.new.self.0 c.decode.new.side c.decode.auto.side c.drop-guard-2.ensures
    e.found e.block
