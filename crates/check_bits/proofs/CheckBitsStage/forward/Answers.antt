use Rattle.check_bits.specs.Checks.{check_forward}
use Rattle.check_bits.proofs.CheckBitsStage.forward.Goals as goal

pub returns : goal.returns
returns c =
    check_forward c.args.n c.args.s c.args.work.now c.args.side.now c.length-m.result c.length-m.ensures
    c.check_of-check.result c.check_of-check.ensures c.in_ok-admit_forward.ensures
    c.copy_from_slice.new.self c.clear_from.new.buffer c.drop-guard.new.self.0
    c.copy_from_slice.ensures.after c.clear_from.ensures c.drop-guard.ensures
