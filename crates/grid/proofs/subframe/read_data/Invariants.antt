use Rattle.std.proofs.Common.{◌≡◌, ◌%◌, ◌≤◌, length}
use Rattle.std.specs.Option.{option_map}
use Rattle.calendar.specs.Identities.{number_of}
use Rattle.grid.specs.Places.{places_left}
use Rattle.grid.specs.Pairs.{bits_of}
use Rattle.grid.specs.Grids.{aired_bits, in_320}
use Rattle.grid.proofs.Chosen.{Below, standing}
use Rattle.grid.proofs.Overwrites.{over_from}
use Rattle.grid.proofs.subframe.read_data.Given as goal

abbrev pub invariant-loop-place : goal.invariant-loop-place
invariant-loop-place g l =
    let left = places_left l.place-iterator in
    let K = g.P.Point.kind in
    Below (length l.grid) left × (length l.bits ≡ 320) × (l.n % 2 ≡ 0) × (l.n ≤ 320)
    × (option_map (over_from l.n l.bits) (bits_of K (standing l.grid left)) ≡ option_map in_320 (aired_bits K (number_of l.fn.identity) l.grid))
