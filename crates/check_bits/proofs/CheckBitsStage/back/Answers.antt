use Rattle.std.proofs.Common.{rules}
use Rattle.check_bits.specs.Checks.{check_finds, check_lacks, front_binary}
use Rattle.check_bits.proofs.CheckBitsStage.back.Goals as goal

pub check_of-check-requires : goal.check_of-check-requires
check_of-check-requires c =
    front_binary c.args.n c.args.s c.args.work.now c.args.side.now c.length-m.result c.length-m.ensures
    c.covers.result c.covers.ensures c.in_ok-admit_back.ensures

pub returns-then-ne : goal.returns-then-ne
returns-then-ne c =
    check_lacks c.args.n c.args.s c.args.work.now c.args.side.now c.length-m.result c.length-m.ensures
    c.check_of-check.result c.check_of-check.ensures c.covers.result c.covers.ensures c.in_ok-admit_back.ensures
    c.clear_from.new.buffer c.drop-guard.new.self.0 c.drop-guard.ensures (search rules) c.clear_from.ensures

pub returns : goal.returns
returns c =
    check_finds c.args.n c.args.s c.args.work.now c.args.side.now c.length-m.result c.length-m.ensures
    c.check_of-check.result c.check_of-check.ensures c.covers.result c.covers.ensures c.in_ok-admit_back.ensures
    c.clear_from-2.new.buffer c.drop-guard-2.new.self.0 c.drop-guard-2.ensures (search rules) c.clear_from-2.ensures
