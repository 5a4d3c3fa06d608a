use Rattle.std.proofs.Common.{rules, length, replicate, sym, ap, ◌∙◌, refl, arith, length-set}
use Rattle.std.specs.Option.{option_map}
use Rattle.calendar.specs.Identities.{number_of}
use Rattle.grid.specs.declared.purpose.Purpose.TheVariants.{Data}
use Rattle.grid.specs.Purposes.{among}
use Rattle.grid.specs.Places.{places_left}
use Rattle.grid.specs.Pairs.{bits_of}
use Rattle.grid.specs.Grids.{aired_bits, in_320}
use Rattle.grid.proofs.Chosen.{places_below, below_more, standing, taken-standing}
use Rattle.grid.proofs.Overwrites.{over_from}
use Rattle.grid.proofs.Fetched.{read_more, read_full, read_none, read_end}
use Rattle.grid.proofs.Carried.{aired_whole}
use Rattle.grid.proofs.subframe.read_data.Goals as goal

pub loop-place-init : goal.loop-place-init
unfolding aired_bits in_320
loop-place-init g c =
    let K = g.P.Point.kind in
    let d = among Data (number_of c.args.identity) in
    let xs = c.args.grid.now in
    let e = ap places_left c.into_iter-place-iterator.ensures.into_iter_gives ∙ c.of-place-items.ensures in (
      rw e (places_below d (length xs)),
      refl,
      refl,
      omega arith,
      ap (λ ps. option_map (over_from 0 (replicate 320 0)) (bits_of K (standing xs ps))) e ∙ ap (λ ts. option_map in_320 (bits_of K ts)) (sym (taken-standing d xs)),
    )

pub offset_bounds-grid-place : goal.offset_bounds-grid-place
offset_bounds-grid-place g c =
    let h = below_more (length c.args.grid.now) c.in-Some.ensures.steps c.loop-place.invariant.0 in search rules

pub bounds-grid-place : goal.bounds-grid-place
bounds-grid-place g c = (below_more (length c.args.grid.now) c.in-Some.ensures.steps c.loop-place.invariant.0).0

pub returns-in_default : goal.returns-in_default
returns-in_default g c =
    let xs = c.args.grid.now in
    let is = read_none xs c.in-Some.place _ _ c.in-Some.ensures.steps c.index-grid-place.result c.loop-place.invariant.0 c.index-grid-place.is g.P.Point.kind c.pair.result c.pair.ensures _ c.loop-place.bits _ c.loop-place.invariant.4 c.in_default.is in
    record { value = is; whole = λ h. is ∙ aired_whole g.P.Point.kind (number_of c.args.identity) xs h }

pub loop-place-preserved-then-n-lt320 : goal.loop-place-preserved-then-n-lt320
loop-place-preserved-then-n-lt320 g c =
    let xs = c.args.grid.now in
    let s = c.in-Some.ensures.steps in
    let l = c.loop-place in (
      (below_more (length xs) s l.invariant.0).1,
      simp length-set l.invariant.1,
      omega (arith, l.invariant.2),
      omega (arith, l.invariant.2, c.if-n-lt320.true),
      read_more xs c.in-Some.place _ _ s c.index-grid-place.result l.invariant.0 c.index-grid-place.is g.P.Point.kind c.pair.result c.pair.ensures l.n l.bits _ l.invariant.4
          c.in-Some-pair.first c.in-Some-pair.second c.in-Some-pair.is (omega (arith, l.invariant.1, l.invariant.2, c.if-n-lt320.true)),
    )

pub loop-place-preserved : goal.loop-place-preserved
loop-place-preserved g c =
    let xs = c.args.grid.now in
    let s = c.in-Some.ensures.steps in
    let l = c.loop-place in (
      (below_more (length xs) s l.invariant.0).1,
      l.invariant.1,
      l.invariant.2,
      l.invariant.3,
      read_full xs c.in-Some.place _ _ s c.index-grid-place.result l.invariant.0 c.index-grid-place.is g.P.Point.kind c.pair.result c.pair.ensures l.n l.bits _ l.invariant.4
          c.in-Some-pair.first c.in-Some-pair.second c.in-Some-pair.is (omega (arith, l.invariant.1, c.if-n-lt320.false)),
    )

pub returns : goal.returns
returns g c =
    let is = read_end g.P.Point.kind c.args.grid.now _ _ c.loop-place.bits _ c.in-None.ensures.steps.0 c.loop-place.invariant.4 in
    record { value = is; whole = λ h. is ∙ aired_whole g.P.Point.kind (number_of c.args.identity) c.args.grid.now h }
