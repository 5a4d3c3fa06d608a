use Rattle.std.proofs.Common.{rules}
use Rattle.chain.specs.Selects.{select_finds, select_lacks}
use Rattle.chain.proofs.selection.SelectionStage.back.Goals as goal

pub returns-then-not-repeats : goal.returns-then-not-repeats
returns-then-not-repeats c =
    select_lacks c.args.n c.args.s c.args.work.now c.args.side.now c.length-m.result c.length-m.ensures
    c.covers.result c.covers.ensures c.in_ok-admit_back.ensures
    c.clear_from.new.buffer c.drop-guard.new.self.0 c.drop-guard.ensures (search rules) c.clear_from.ensures

pub returns : goal.returns
returns c =
    select_finds c.args.n c.args.s c.args.work.now c.args.side.now c.length-m.result c.length-m.ensures
    c.covers.result c.covers.ensures c.in_ok-admit_back.ensures
    c.clear_from-2.new.buffer c.drop-guard-2.new.self.0 c.drop-guard-2.ensures (search rules) c.clear_from-2.ensures
