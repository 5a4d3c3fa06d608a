use Rattle.std.proofs.Common.{◌+◌, length, ap, ◌∙◌, arith}
use Rattle.interleaver.proofs.Columns.{first_stands, left_bit, left_next, left_none}
use Rattle.interleaver.proofs.PlacesIterator.next.Goals as goal

pub returns-then-turn-eq32-clause-steps : goal.returns-then-turn-eq32-clause-steps
returns-then-turn-eq32-clause-steps c =
    let e = left_none c.loop-self.self.matrix.bits c.loop-self.self.turn c.loop-self.self.bit (omega arith) (omega arith) c.loop-self.self.inside in
    (c.loop-self.invariant ∙ e, e)

pub invariant_of-self : goal.invariant_of-self
invariant_of-self c =
    let first = first_stands c.loop-self.self.matrix.bits (c.loop-self.self.turn + 1) (omega arith) in
    record { turns = omega arith; column = rw c.first_bit-self.ensures first.0; inside = rw c.first_bit-self.ensures first.1 }

pub loop-self-preserved : goal.loop-self-preserved
loop-self-preserved c =
    c.loop-self.invariant
    ∙ rw c.first_bit-self.ensures (left_next c.loop-self.self.matrix.bits c.loop-self.self.turn c.loop-self.self.bit (omega arith) (omega arith) c.loop-self.self.inside)

pub returns-clause-steps : goal.returns-clause-steps
returns-clause-steps c =
    c.loop-self.invariant
    ∙ left_bit c.loop-self.self.matrix.bits c.loop-self.self.turn c.loop-self.self.bit c.loop-self.self.turns (omega arith) c.loop-self.self.column

pub returns-clause-goes : goal.returns-clause-goes
returns-clause-goes c =
    let e =
    c.loop-self.invariant
    ∙ left_bit c.loop-self.self.matrix.bits c.loop-self.self.turn c.loop-self.self.bit c.loop-self.self.turns (omega arith) c.loop-self.self.column in
    let n = ap length e in
    record { on = λ _. (tt, tt, omega arith); keeps = tt; rests = λ _. tt }
