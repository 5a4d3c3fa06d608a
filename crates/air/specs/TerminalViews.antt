-- What a terminal in memory stands for. Assumes nothing.
use Rattle.std.specs.Prelude.{ℕ, ◌+◌, ◌-◌, ◌*◌, ◌/◌, min, Bool, true, false, cond, List, take, Some, None, Option}
use Rattle.std.specs.Option.{option_map}
use Rattle.stage.specs.Meaning.{Meaning}
use Rattle.calendar.specs.declared.grant.Grant.{Grant}
use Rattle.calendar.specs.Grants.{part_bits}
use Rattle.calendar.specs.Rounds.{copies, first_copy}
use Rattle.calendar.specs.Times.{closed}
use Rattle.calendar.specs.Courses.{Going, going_of}
use Rattle.air.specs.declared.terminal.Terminal.{Terminal}
use Rattle.air.specs.declared.terminal.slot.Slot.{Slot}
use Rattle.air.specs.declared.terminal.slot.Slot.TheVariants.{Closed, Idle, FirstCopy, Repeat}
use Rattle.air.specs.declared.answers.Outcome.{Outcome}
use Rattle.air.specs.Ends.{End, end_of}
use Rattle.air.specs.Fits.{covered}
use Rattle.air.specs.Terminals.{Awaiting, TerminalState, hearing, with_awaited}

-- how many parts have had their first copy once k open subframes of a grant are gone
abbrev pub parts_read : Grant → ℕ → ℕ
parts_read g k = min g.subframes ((k + (copies g - 1)) / copies g)

-- the word as far as it was read stands at the front of the table
abbrev pub awaiting_of : List ℕ → Going → Awaiting
awaiting_of table g = record { going = g; read = take (part_bits * parts_read g.grant g.gone) table }

-- an awaited grant counts where the chain covers it: no call leaves another in memory
abbrev pub covered_by : Meaning → Option Going → Option Going
covered_by m None = None
covered_by m (Some g) = cond (covered m g.grant) (Some g) None

abbrev pub terminal_of : {S P : Type 0} → (S → Meaning) → Terminal S P → TerminalState
terminal_of meaning t = record {
  identity = (end_of t.end).identity;
  time = (end_of t.end).time;
  chain = meaning t.chain;
  awaited = option_map (awaiting_of t.word) (covered_by (meaning t.chain) (option_map going_of t.awaited));
}

-- an end put on air as a terminal awaits nothing
abbrev pub tuned : End → Meaning → TerminalState
tuned e m = record { identity = e.identity; time = e.time; chain = m; awaited = None }

-- the end of a terminal
abbrev pub end_within : TerminalState → End
end_within t = record { identity = t.identity; time = t.time }

-- what a subframe is to a terminal, by whether it is closed and by what is awaited
abbrev pub slot_of : Bool → Option Going → Slot
slot_of true g = Closed
slot_of false None = Idle
slot_of false (Some g) = cond (first_copy g.grant g.gone) FirstCopy Repeat

-- only a first copy is read
abbrev pub is_due : Slot → Bool
is_due Closed = false
is_due Idle = false
is_due FirstCopy = true
is_due Repeat = false

-- what a terminal makes of the bits that are aired: the outcome, the block buffer, and the terminal then
abbrev pub takes_in : TerminalState → List ℕ → List ℕ → Outcome × List ℕ × TerminalState
takes_in t bits buffer =
    let h = hearing t.identity t.chain (closed t.time) t.awaited bits buffer in
    (h.outcome, h.buffer, with_awaited t h.awaited)
