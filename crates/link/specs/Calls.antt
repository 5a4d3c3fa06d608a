-- A cell's calls with their arguments, and the cell after any call. Assumes nothing.
use Rattle.std.specs.Prelude.{ℕ, Bool, List, length, is_some, None, Option}
use Rattle.stage.specs.Meaning.{Meaning}
use Rattle.point.specs.Kinds.{Kind}
use Rattle.calendar.specs.declared.grant.Grant.{Grant}
use Rattle.air.specs.declared.fault.EndFault.{EndFault}
use Rattle.air.specs.Refusals.{offer_refusal, subframe_refusal, end_refusal, settled}
use Rattle.air.specs.Cells.{CellState, offered, stepped, with_pending}

-- a grant with work and side buffer; work and side buffer with the grid to write; a withdrawal
pub data Call (X : Type 0) : Type 0 where
  offer : Grant → List ℕ → List ℕ → Call X
  subframe : List ℕ → List ℕ → List X → Call X
  withdraw : Call X

-- what turns a call down at an end with that chain; busy where a grant is pending
abbrev pub refusal : {X : Type 0} → Meaning → Bool → Call X → Option EndFault
refusal m busy (offer g work side) = offer_refusal m busy g work side
refusal m busy (subframe work side grid) = subframe_refusal work side (length grid)
refusal m busy withdraw = end_refusal busy

abbrev pub turned_down : {X : Type 0} → CellState → Call X → Option EndFault
turned_down c x = refusal c.chain (is_some c.pending) x

-- the cell after an accepted call, and after any
abbrev pub accepting : {X : Type 0} → Kind X → CellState → Call X → CellState
accepting K c (offer g work side) = offered c g work
accepting K c (subframe work side grid) = stepped K c
accepting K c withdraw = with_pending c None

abbrev pub called : {X : Type 0} → Kind X → CellState → Call X → CellState
called K c x = settled (turned_down c x) c (accepting K c x)
