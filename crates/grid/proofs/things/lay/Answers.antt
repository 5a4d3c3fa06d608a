use Rattle.std.proofs.Common.{rules, ◌≡◌, length, ap, ◌∙◌, inl, inr, length-set}
use Rattle.std.specs.Iterator.Adapters.{zip_first, zip_second}
use Rattle.calendar.specs.Identities.{number_of}
use Rattle.grid.specs.Purposes.{among}
use Rattle.grid.specs.Places.{places_left}
use Rattle.grid.specs.Walk.{places}
use Rattle.grid.proofs.Chosen.{places_below, below_more, lays_at_first, lays_more, lays_out, lays_end}
use Rattle.grid.proofs.things.lay.Goals as goal

pub loop-thing-init : goal.loop-thing-init
loop-thing-init g c =
    let d = among c.args.what (number_of c.args.identity) in
    let it = c.into_iter-thing-iterator.result in
    let n = length c.args.grid.now in
    let e : places_left (zip_second it) ≡ places d 0 n = ap (λ z. places_left (zip_second z)) c.into_iter-thing-iterator.ensures.into_iter_gives ∙ ap places_left c.zip-thing-items.ensures.second ∙ c.of.ensures in
    (search rules, rw e (places_below d n), λ ts y. lays_at_first g.I.Iterator.next_gives d c.args.things (zip_first it) _ c.args.grid.now ts (cc) e y)

pub offset_bounds-grid-place : goal.offset_bounds-grid-place
offset_bounds-grid-place g c =
    let h = below_more (length c.loop-thing.grid) c.in-Some.ensures.steps.1 c.loop-thing.invariant.1 in search rules

pub bounds-grid-place : goal.bounds-grid-place
bounds-grid-place g c = (below_more (length c.loop-thing.grid) c.in-Some.ensures.steps.1 c.loop-thing.invariant.1).0

pub loop-thing-preserved : goal.loop-thing-preserved
loop-thing-preserved g c =
    let s = c.in-Some.ensures.steps in (
      search rules,
      simp length-set (below_more (length c.loop-thing.grid) s.1 c.loop-thing.invariant.1).1,
      λ ts y. lays_more g.I.Iterator.next_gives _ _ c.in-Some.place _ _ c.in-Some.thing c.loop-thing.grid _ s.1 s.0 (c.loop-thing.invariant.2 ts y),
    )

pub returns : goal.returns
returns g c = λ ts y.
    let l = c.loop-thing.invariant.2 ts y in
    elim c.in-None.ensures.steps [
      | inl p ↦ lays_end g.I.Iterator.next_gives _ _ _ c.loop-thing.grid _ p.1 l
      | inr p ↦ lays_out g.I.Iterator.next_gives _ _ c.loop-thing.grid _ p.1.0 l
    ]
