-- What a cell on air is, and what its calls answer and leave. Assumes nothing.
use Rattle.std.specs.Prelude.{ℕ, ◌*◌, Bool, true, false, List, take, drop, Some, None, Option}
use Rattle.std.specs.Option.{option_map}
use Rattle.stage.specs.Meaning.{Meaning, word}
use Rattle.point.specs.Kinds.{Kind}
use Rattle.grid.specs.Grids.{vacant, marked, carrying}
use Rattle.calendar.specs.declared.time.Time.{Time}
use Rattle.calendar.specs.declared.grant.Grant.{Grant}
use Rattle.calendar.specs.Grants.{part_bits, output}
use Rattle.calendar.specs.Times.{after, closed}
use Rattle.calendar.specs.Rounds.{part_at, owed, seed_at}
use Rattle.calendar.specs.Courses.{Going, begun, one_on}
use Rattle.air.specs.declared.answers.Airing.{Airing}
use Rattle.air.specs.declared.answers.Airing.TheVariants.{Closed, Idle, Data}

-- a pending grant under way, and its block
pub record Sending : Type 0 where
  pub going : Going
  pub block : List ℕ

pub record CellState : Type 0 where
  pub identity : ℕ
  pub time : Time
  pub chain : Meaning
  pub pending : Option Sending

-- part p of a word
abbrev pub part_of : ℕ → List ℕ → List ℕ
part_of p w = take part_bits (drop (part_bits * p) w)

-- the word of the block in the round under way: its seed is that of the round's first open subframe
abbrev pub round_word : ℕ → Meaning → Sending → List ℕ
round_word identity m s =
    word m s.going.grant.length (output s.going.grant)
    (seed_at identity s.going.grant s.going.start s.going.gone) s.block

-- the part that goes out in the next open subframe, and its bits
abbrev pub part_due : Going → ℕ
part_due g = part_at g.grant g.gone

abbrev pub sent_bits : ℕ → Meaning → Sending → List ℕ
sent_bits identity m s = part_of (part_due s.going) (round_word identity m s)

abbrev pub with_pending : CellState → Option Sending → CellState
with_pending c p = record { identity = c.identity; time = c.time; chain = c.chain; pending = p }

-- whether a chain covers the pending grant
abbrev pub is_covered : Meaning → Option Sending → Bool
is_covered m None = false
is_covered m (Some s) = m.covers s.going.grant.length (output s.going.grant)

-- an accepted offer notes the block and the grant, with the cell's time as its start
abbrev pub offered : CellState → Grant → List ℕ → CellState
offered c g work = with_pending c (Some (record { going = begun g c.time; block = take g.length work }))

-- one open subframe on; a grant ends with its last subframe
abbrev pub one_sent : Sending → Option Sending
one_sent s = option_map (λ g. record { going = g; block = s.block }) (one_on s.going)

-- an accepted subframe call: the answer, the grid that is written, and what is then pending
pub record Written (X : Type 0) : Type 0 where
  pub answer : Airing
  pub grid : List X
  pub pending : Option Sending

-- by whether the subframe is closed, and by what is pending
abbrev pub written : {X : Type 0} → Kind X → ℕ → Meaning → Time → Bool → Option Sending → Written X
written K identity m t true p = record { answer = Closed; grid = vacant K 168; pending = p }
written K identity m t false None = record { answer = Idle; grid = marked K 168 identity t.subframe; pending = None }
written K identity m t false (Some s) = record {
  answer = Data (part_due s.going) (owed s.going.grant s.going.gone);
  grid = carrying K 168 identity t.subframe (sent_bits identity m s);
  pending = one_sent s;
}

abbrev pub airs : {X : Type 0} → Kind X → CellState → Written X
airs K c = written K c.identity c.chain c.time (closed c.time) c.pending

-- an accepted subframe call steps the clock
abbrev pub stepped : {X : Type 0} → Kind X → CellState → CellState
stepped K c = record { identity = c.identity; time = after c.time; chain = c.chain; pending = (airs K c).pending }
