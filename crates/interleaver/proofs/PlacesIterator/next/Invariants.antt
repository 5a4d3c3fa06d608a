use Rattle.std.proofs.Common.{◌≡◌, ◌-◌}
use Rattle.interleaver.specs.Interleaving.{left, row_of}
use Rattle.interleaver.proofs.PlacesIterator.next.Given as goal

abbrev pub invariant-loop-self : goal.invariant-loop-self
invariant-loop-self l =
    left l.initial.self.matrix.bits l.initial.self.turn (row_of l.initial.self.matrix.bits l.initial.self.bit) ≡ left l.self.matrix.bits l.self.turn (row_of l.self.matrix.bits l.self.bit)

abbrev pub decreases-loop-self : goal.decreases-loop-self
decreases-loop-self l = 32 - l.self.turn
