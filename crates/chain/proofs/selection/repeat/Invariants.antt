use Rattle.chain.specs.Rings.{Ringed}
use Rattle.chain.proofs.selection.repeat.Given as goal

abbrev pub invariant-loop-k : goal.invariant-loop-k
invariant-loop-k l = Ringed l.n l.initial.bits l.k l.bits
