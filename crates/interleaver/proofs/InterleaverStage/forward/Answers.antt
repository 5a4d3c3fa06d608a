use Rattle.std.proofs.Common.{arith}
use Rattle.interleaver.specs.Interleaves.{forward_room, interleave_forward}
use Rattle.interleaver.proofs.InterleaverStage.forward.Goals as goal

pub holding-requires : goal.holding-requires
holding-requires c =
    (forward_room c.args.n c.args.s c.args.work.now c.args.side.now c.length-m.result c.length-m.ensures
    c.in_ok-admit_forward.ensures).0

pub interleave-requires : goal.interleave-requires
interleave-requires c =
    let room = forward_room c.args.n c.args.s c.args.work.now c.args.side.now c.length-m.result c.length-m.ensures
    c.in_ok-admit_forward.ensures in
    let same = c.holding.ensures in
    record { work_holds = omega arith; side_holds = omega arith }

pub returns : goal.returns
returns c =
    interleave_forward c.args.n c.args.s c.args.work.now c.args.side.now c.length-m.result c.length-m.ensures
    c.in_ok-admit_forward.ensures c.interleave.new.work c.clear_from.new.buffer c.drop-guard.new.self.0
    (omega arith) (rw c.holding.ensures at c.interleave.ensures) c.clear_from.ensures (cc)
