use Rattle.std.proofs.Common.{rules, length, sym, ap, ◌∙◌, arith}
use Rattle.calendar.specs.Identities.{number_of}
use Rattle.grid.specs.Purposes.{among}
use Rattle.grid.specs.Walk.{overwritten}
use Rattle.grid.proofs.Chosen.{places_below, below_more, standing, standing_first, taken-standing}
use Rattle.grid.proofs.Overwrites.{over_from, over_all, over_done, fetch_more}
use Rattle.grid.proofs.things.fetch.Goals as goal

pub loop-i-init : goal.loop-i-init
loop-i-init g c =
    let d = among c.args.what (number_of c.args.identity) in
    let xs = c.args.grid.now in
    let e = c.of-chosen.ensures in (
      rw e (places_below d (length xs)),
      ap (λ ps. over_from 0 c.args.out.now (standing xs ps)) e ∙ ap (overwritten c.args.out.now) (sym (taken-standing d xs)),
    )

pub offset_bounds-grid-place : goal.offset_bounds-grid-place
offset_bounds-grid-place g c =
    let h = below_more (length c.args.grid.now) c.in-Some.ensures.steps c.loop-i.invariant.0 in search rules

pub bounds-grid-place : goal.bounds-grid-place
bounds-grid-place g c = (below_more (length c.args.grid.now) c.in-Some.ensures.steps c.loop-i.invariant.0).0

pub loop-i-preserved : goal.loop-i-preserved
loop-i-preserved g c =
    let s = c.in-Some.ensures.steps in
    let xs = c.args.grid.now in
    let inv = c.loop-i.invariant in (
      (below_more (length xs) s inv.0).1,
      fetch_more c.loop-i.i c.index-grid-place.result c.loop-i.out _ _ _ (omega arith)
          (standing_first xs c.in-Some.place _ _ c.index-grid-place.result s inv.0 c.index-grid-place.is) inv.1,
    )

pub returns-in_default : goal.returns-in_default
returns-in_default g c =
    let n = c.loop-i.i in
    let out = c.loop-i.out in
    sym (ap (λ ps. over_from n out (standing c.args.grid.now ps)) c.in_default.ensures.steps.0 ∙ over_done n out) ∙ c.loop-i.invariant.1

pub returns : goal.returns
returns g c = sym (over_all c.loop-i.i c.loop-i.out _ (omega arith)) ∙ c.loop-i.invariant.1
