use Rattle.std.proofs.Common.{sym, arith}
use Rattle.interleaver.proofs.Columns.{left_first}
use Rattle.interleaver.proofs.Matrix.places.Goals as goal

pub returns : goal.returns
returns c = rw c.first_bit.ensures (sym (left_first c.args.self.bits 0 (omega arith)))
