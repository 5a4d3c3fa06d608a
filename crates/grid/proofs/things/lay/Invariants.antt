use Rattle.std.proofs.Common.{List, length}
use Rattle.std.specs.Iterator.{AlwaysYields}
use Rattle.std.specs.Iterator.Adapters.{zip_first, zip_second}
use Rattle.calendar.specs.Identities.{number_of}
use Rattle.grid.specs.Purposes.{among}
use Rattle.grid.specs.Places.{places_left}
use Rattle.grid.specs.Walk.{laid}
use Rattle.grid.proofs.Chosen.{Below, Lays}
use Rattle.grid.proofs.things.lay.Given as goal

abbrev pub invariant-loop-thing : goal.invariant-loop-thing
invariant-loop-thing g l =
    let left = places_left (zip_second l.thing-iterator) in
    (goal.iterator-loop-thing g).can_next l.thing-iterator
    × Below (length l.grid) left
    × ((ts : List g.row.T.Denot) → AlwaysYields g.I.Iterator.next_gives (λ t. t) l.fn.things ts
    → Lays g.I.Iterator.next_gives (zip_first l.thing-iterator) left l.grid (laid (among l.fn.what (number_of l.fn.identity)) 0 l.initial.grid ts))
