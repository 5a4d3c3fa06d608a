use Rattle.std.proofs.Common.{sym, arith}
use Rattle.stage.specs.Xors.{xor_nil}
use Rattle.tail_biting.specs.Adding.{added_more}
use Rattle.tail_biting.proofs.add_bits.Goals as goal

pub loop-k-init : goal.loop-k-init
loop-k-init c = sym (xor_nil c.args.out.now)

pub loop-k-preserved : goal.loop-k-preserved
loop-k-preserved c = added_more c.args.out.now c.loop-k.out c.args.bits.now c.loop-k.k (omega arith) c.requires c.loop-k.invariant
