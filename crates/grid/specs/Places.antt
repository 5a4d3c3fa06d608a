-- What a walk over a grid has before it. Assumes nothing.
use Rattle.std.specs.Prelude.{ℕ, ◌-◌, List}
use Rattle.grid.specs.declared.places.Places.{Places}
use Rattle.grid.specs.Walk.{places}
use Rattle.grid.specs.Purposes.{among}

-- the places that a walk still has before it; the remainder of an identity stands for it
abbrev pub places_left : Places → List ℕ
places_left walk = places (among walk.what walk.shift.value) walk.from (walk.end - walk.from)
