use Rattle.std.proofs.Common.{rules, ◌≡◌, List, ℕ, Iter, get_or, ap, ◌∙◌, subst}
use Rattle.std.specs.Iterator.{AlwaysYields}
use Rattle.std.proofs.iter.Yields.{fronts, slice_gives, map_gives}
use Rattle.grid.specs.Pairs.{is_one, pair_points}
use Rattle.grid.proofs.subframe.put_points.Goals as goal

pub returns : goal.returns
unfolding pair_points
returns g c =
    let K = g.P.Point.kind in
    let pairs = c.args.pairs.now in
    let rest : c.map.result.iter.rest.now ≡ pairs = ap (λ (s : Iter (List ℕ)). s.rest.now) c.map.ensures.source ∙ c.iter.ensures.rest in
    let road : AlwaysYields fronts (λ y. y.now) c.map.result.iter pairs = subst (AlwaysYields fronts (λ y. y.now) c.map.result.iter) rest (slice_gives c.map.result.iter) in
    c.lay.ensures _
    (map_gives fronts (λ y. y.now) _ (λ (pair : List ℕ). K.point (is_one (get_or pair 0 0)) (is_one (get_or pair 1 0))) (λ f x r q k. search rules) pairs c.map.result road)
