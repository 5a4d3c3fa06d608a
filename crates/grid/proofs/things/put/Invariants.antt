use Rattle.std.proofs.Common.{◌≡◌, length, drop}
use Rattle.calendar.specs.Identities.{number_of}
use Rattle.grid.specs.Purposes.{among}
use Rattle.grid.specs.Places.{places_left}
use Rattle.grid.specs.Walk.{laid}
use Rattle.grid.proofs.Chosen.{Below, put_over}
use Rattle.grid.proofs.things.put.Given as goal

abbrev pub invariant-loop-thing : goal.invariant-loop-thing
invariant-loop-thing g l =
    let left = places_left l.places in
    Below (length l.grid) left × (put_over l.grid left (drop l.thing-index l.things) ≡ laid (among l.fn.what (number_of l.fn.identity)) 0 l.initial.grid l.things)
