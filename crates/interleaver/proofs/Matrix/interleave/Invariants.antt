use Rattle.interleaver.specs.Interleaving.{left, row_of}
use Rattle.interleaver.proofs.Columns.{Read}
use Rattle.interleaver.proofs.Matrix.interleave.Given as goal

abbrev pub invariant-loop-k : goal.invariant-loop-k
invariant-loop-k l =
    (goal.iterator-loop-k).can_next l.k-iterator × (goal.iterator-loop-k).is_finite l.k-iterator
    × Read l.self.bits l.side l.work (left l.k-iterator.iter.matrix.bits l.k-iterator.iter.turn (row_of l.k-iterator.iter.matrix.bits l.k-iterator.iter.bit)) l.k-iterator.count
