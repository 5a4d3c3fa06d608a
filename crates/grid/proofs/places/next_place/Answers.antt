use Rattle.std.proofs.Common.{rules, sym, ◌∙◌}
use Rattle.grid.specs.Purposes.{among}
use Rattle.grid.proofs.Next.{next_past, next_here, next_on}
use Rattle.grid.proofs.places.next_place.Goals as goal

pub returns-then-eq-clause-place : goal.returns-then-eq-clause-place
unfolding among
returns-then-eq-clause-place c = λ id h.
    let d = among c.args.what id in
    let p = c.purpose.ensures id h in
    let q = c.eq.ensures in
    sym (next_here d _ _ c.loop-place-test.true (search rules)) ∙ c.loop-place.invariant id h

pub loop-place-preserved : goal.loop-place-preserved
unfolding among
loop-place-preserved c = λ id h.
    let d = among c.args.what id in
    let p = c.purpose.ensures id h in
    let q = c.eq.ensures in
    sym (next_on d _ _ c.loop-place-test.true (search rules)) ∙ c.loop-place.invariant id h

pub returns-clause-place : goal.returns-clause-place
returns-clause-place c = λ id h. sym (next_past (among c.args.what id) _ _ c.loop-place-test.false) ∙ c.loop-place.invariant id h
