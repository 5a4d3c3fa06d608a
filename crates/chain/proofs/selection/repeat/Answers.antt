use Rattle.std.proofs.Common.{arith}
use Rattle.chain.specs.Rings.{ringed_none, ringed_more, ringed_all}
use Rattle.chain.proofs.selection.repeat.Goals as goal

pub loop-k-init : goal.loop-k-init
loop-k-init c = ringed_none c.args.n c.args.bits.now

pub loop-k-preserved : goal.loop-k-preserved
loop-k-preserved c = ringed_more c.args.n c.args.bits.now c.loop-k.bits c.loop-k.k c.requires (omega arith) (omega arith) c.loop-k.invariant

pub returns : goal.returns
returns c = ringed_all c.args.n c.args.bits.now c.loop-k.bits c.loop-k.k (omega arith) (omega arith) c.loop-k.invariant
