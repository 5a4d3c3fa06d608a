use Rattle.std.proofs.Common.{rules, ◌+◌, ◌∷◌, length, drop, sym, ap, ◌∙◌, length-set}
use Rattle.std.proofs.lemmas.List.{drop_more, drop_all}
use Rattle.calendar.specs.Identities.{number_of}
use Rattle.grid.specs.Purposes.{among}
use Rattle.grid.proofs.Chosen.{places_below, below_more, put_over, put_next, put_done, laid-put_over}
use Rattle.grid.proofs.Walks.{keeps_things}
use Rattle.grid.proofs.things.put.Goals as goal

pub loop-thing-init : goal.loop-thing-init
loop-thing-init g c =
    let d = among c.args.what (number_of c.args.identity) in
    let xs = c.args.grid.now in
    let e = c.of-places.ensures in (
      rw e (places_below d (length xs)),
      ap (λ ps. put_over xs ps c.args.things.now) e ∙ sym (laid-put_over d xs c.args.things.now),
    )

pub offset_bounds-grid-place : goal.offset_bounds-grid-place
offset_bounds-grid-place g c =
    let h = below_more (length c.loop-thing.grid) c.in-Some.ensures.steps c.loop-thing.invariant.0 in search rules

pub bounds-grid-place : goal.bounds-grid-place
bounds-grid-place g c = (below_more (length c.loop-thing.grid) c.in-Some.ensures.steps c.loop-thing.invariant.0).0

pub loop-thing-preserved : goal.loop-thing-preserved
loop-thing-preserved g c =
    let s = c.in-Some.ensures.steps in
    let ts = c.args.things.now in
    let i = c.loop-thing.thing-index in
    let t = c.thing-item.result in (
      simp length-set (below_more (length c.loop-thing.grid) s c.loop-thing.invariant.0).1,
      put_next c.loop-thing.grid _ _ _ _ _ c.in-Some.place t s (drop_more ts i t c.loop-thing-test.true ∙ ap (λ x. x ∷ drop (i + 1) ts) (sym c.thing-item.is)) c.loop-thing.invariant.1,
    )

pub returns-in_default : goal.returns-in_default
returns-in_default g c =
    record {
      after = sym (ap (λ ps. put_over c.loop-thing.grid ps (drop c.loop-thing.thing-index c.args.things.now)) c.in_default.ensures.steps.0) ∙ c.loop-thing.invariant.1;
      law = keeps_things _;
    }

pub returns : goal.returns
returns g c =
    record {
      after = put_done c.loop-thing.grid _ _ _ (drop_all c.loop-thing.thing-index c.args.things.now c.loop-thing-test.false) c.loop-thing.invariant.1;
      law = keeps_things _;
    }
