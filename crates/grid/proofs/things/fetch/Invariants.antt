use Rattle.std.proofs.Common.{◌≡◌, length}
use Rattle.calendar.specs.Identities.{number_of}
use Rattle.grid.specs.Purposes.{among}
use Rattle.grid.specs.Places.{places_left}
use Rattle.grid.specs.Walk.{taken, overwritten}
use Rattle.grid.proofs.Chosen.{Below, standing}
use Rattle.grid.proofs.Overwrites.{over_from}
use Rattle.grid.proofs.things.fetch.Given as goal

abbrev pub invariant-loop-i : goal.invariant-loop-i
invariant-loop-i g l =
    let left = places_left l.chosen in
    Below (length l.grid) left × (over_from l.i l.out (standing l.grid left) ≡ overwritten l.initial.out (taken (among l.fn.what (number_of l.fn.identity)) 0 l.grid))
