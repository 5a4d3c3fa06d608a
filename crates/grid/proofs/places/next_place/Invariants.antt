use Rattle.std.proofs.Common.{◌≡◌, ℕ, ◌-◌, ◌%◌}
use Rattle.grid.specs.Purposes.{among}
use Rattle.grid.specs.Walk.{next_place}
use Rattle.grid.proofs.places.next_place.Given as goal

abbrev pub invariant-loop-place : goal.invariant-loop-place
invariant-loop-place l =
    (identity : ℕ) → l.shift.value ≡ identity % 6
    → next_place (among l.what identity) l.place (l.end - l.place) ≡ next_place (among l.what identity) l.from (l.end - l.from)
