use Rattle.std.proofs.Common.{rules}
use Rattle.grid.proofs.Chosen.{next_first}
use Rattle.grid.proofs.places.walk.PlacesIterator.next.Goals as goal

pub returns-in_err-place-clause-steps : goal.returns-in_err-place-clause-steps
returns-in_err-place-clause-steps c = let e = next_first c.args.self.now c.next_place.result c.next_place.ensures.place in search rules

pub returns-clause-steps : goal.returns-clause-steps
returns-clause-steps c = let e = next_first c.args.self.now c.next_place.result c.next_place.ensures.place in search rules

pub returns-clause-goes : goal.returns-clause-goes
returns-clause-goes c = let e = next_first c.args.self.now c.next_place.result c.next_place.ensures.place in search rules
