use Rattle.std.proofs.Common.{length, arith}
use Rattle.std.proofs.lemmas.List.FromFn.{fill_by_all}
use Rattle.packing.specs.Packed.{bit_at}
use Rattle.packing.proofs.unpack.Goals as goal

pub returns : goal.returns
returns c = fill_by_all (bit_at c.args.bytes.now) _ (length c.args.bits.now) 0 (omega arith) (λ j h. c.loop-k.invariant j (omega arith))
