-- What the fields of a cell in memory stand for. Assumes nothing.
use Rattle.std.specs.Prelude.{ℕ, cond, List, take, Some, None, Option}
use Rattle.std.specs.Option.{option_map}
use Rattle.stage.specs.Meaning.{Meaning}
use Rattle.calendar.specs.Courses.{Going, going_of}
use Rattle.air.specs.declared.cell.Cell.{Cell}
use Rattle.air.specs.Cells.{Sending, CellState}
use Rattle.air.specs.Ends.{end_of}
use Rattle.air.specs.Fits.{fits}

-- a kept grant counts where the chain's word fits it: no call leaves another in memory
abbrev pub fitting : Meaning → Option Going → Option Going
fitting m None = None
fitting m (Some g) = cond (fits m g.grant) (Some g) None

-- a kept grant and its block, which stands at the start of the table
abbrev pub sending_of : List ℕ → Going → Sending
sending_of table g = record { going = g; block = take g.grant.length table }

abbrev pub cell_of : {S P : Type 0} → (S → Meaning) → Cell S P → CellState
cell_of meaning c = record {
  identity = (end_of c.end).identity;
  time = (end_of c.end).time;
  chain = meaning c.chain;
  pending = option_map (sending_of c.block) (fitting (meaning c.chain) (option_map going_of c.pending));
}
