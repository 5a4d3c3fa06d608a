-- What a terminal on air is, and what its calls answer and leave. Assumes nothing.
use Rattle.std.specs.Prelude.{ℕ, zero, suc, Bool, true, false, not, ◌&&◌, List, [], ◌∷◌, ◌++◌, map, length, drop, is_some, Some, None, Option, ◌==◌, nat_lt}
use Rattle.std.specs.List.{find}
use Rattle.std.specs.Option.{unwrap_or, option_map}
use Rattle.std.specs.Str.{bytes_eq}
use Rattle.stage.specs.Meaning.{Meaning, word}
use Rattle.stage.specs.Refusals.{first_fault, short}
use Rattle.point.specs.Kinds.{Kind}
use Rattle.grid.specs.Grids.{aired_bits}
use Rattle.calendar.specs.declared.time.Time.{Time}
use Rattle.calendar.specs.declared.grant.Grant.{Grant}
use Rattle.calendar.specs.Grants.{output}
use Rattle.calendar.specs.Times.{after, closed}
use Rattle.calendar.specs.Rounds.{part_at, first_copy, last_part, seed_at}
use Rattle.calendar.specs.Courses.{Going, begun, one_on}
use Rattle.air.specs.declared.answers.Outcome.{Outcome}
use Rattle.air.specs.declared.answers.Outcome.TheVariants.{Closed, Idle, Part, Block, Spoiled, Repeat}
use Rattle.air.specs.declared.fault.EndFault.{EndFault}
use Rattle.air.specs.declared.fault.EndFault.TheVariants.{ShortBuffer, GridSize, ShortBlock, NoPair}

-- an awaited grant under way, and the word's bits as far as they were read
pub record Awaiting : Type 0 where
  pub going : Going
  pub read : List ℕ

pub record TerminalState : Type 0 where
  pub identity : ℕ
  pub time : Time
  pub chain : Meaning
  pub awaited : Option Awaiting

-- ---- the block that has a word

-- all blocks of n bits
unfoldable pub blocks : ℕ → List (List ℕ)
blocks zero = [] ∷ []
blocks (suc n) = map (λ b. 0 ∷ b) (blocks n) ++ map (λ b. 1 ∷ b) (blocks n)

-- the block of n bits whose word is w, if there is one
unfoldable pub block_of : Meaning → (n e seed : ℕ) → List ℕ → Option (List ℕ)
block_of m n e seed w = find (λ b. bytes_eq (word m n e seed b) w) (blocks n)

-- ---- expect

abbrev pub with_awaited : TerminalState → Option Awaiting → TerminalState
with_awaited t a = record { identity = t.identity; time = t.time; chain = t.chain; awaited = a }

-- an accepted expect awaits the grant, with the terminal's time as its start
abbrev pub expecting : TerminalState → Grant → TerminalState
expecting t g = with_awaited t (Some (record { going = begun g t.time; read = [] }))

-- ---- hear

-- the block length of what is awaited
abbrev pub awaited_length : Option Awaiting → ℕ
awaited_length None = 0
awaited_length (Some a) = a.going.grant.length

-- the block buffer is shorter than the block of a pending grant
abbrev pub short_block : Option Awaiting → List ℕ → Bool
short_block None buffer = false
short_block (Some a) buffer = nat_lt (length buffer) a.going.grant.length

-- whether the subframe has the first copy of a part in the first round, by whether it is closed and by what is awaited
abbrev pub due : Bool → Option Awaiting → Bool
due true a = false
due false None = false
due false (Some a) = first_copy a.going.grant a.going.gone

unfoldable pub hear_refusal : {X : Type 0} → Kind X → ℕ → Bool → Option Awaiting → List ℕ → List ℕ → List ℕ → List X → Option EndFault
hear_refusal K identity shut a work side buffer grid =
    first_fault ((short work side, ShortBuffer) ∷ (not (length grid == 168), GridSize) ∷ (short_block a buffer, ShortBlock)
    ∷ (due shut a && not (is_some (aired_bits K identity grid)), NoPair) ∷ [])

-- one open subframe on; a grant ends with its last subframe
abbrev pub one_heard : Awaiting → List ℕ → Option Awaiting
one_heard a read = option_map (λ g. record { going = g; read = read }) (one_on a.going)

-- an accepted hear call: the outcome, what is then awaited, and the block buffer
pub record Hearing : Type 0 where
  pub outcome : Outcome
  pub awaited : Option Awaiting
  pub buffer : List ℕ

-- the last part has come: the block whose word was read, if there is one
abbrev pub finished : Awaiting → List ℕ → List ℕ → Option (List ℕ) → Hearing
finished a read buffer None = record { outcome = Spoiled; awaited = None; buffer = buffer }
finished a read buffer (Some b) =
    record { outcome = Block; awaited = one_heard a read; buffer = b ++ drop a.going.grant.length buffer }

-- by whether a first copy is due, and whether it is the last part
abbrev pub reading : ℕ → Meaning → Awaiting → List ℕ → List ℕ → Bool → Bool → Hearing
reading identity m a bits buffer false last = record { outcome = Repeat; awaited = one_heard a a.read; buffer = buffer }
reading identity m a bits buffer true false =
    record { outcome = Part (part_at a.going.grant a.going.gone); awaited = one_heard a (a.read ++ bits); buffer = buffer }
reading identity m a bits buffer true true =
    finished a (a.read ++ bits) buffer
    (block_of m a.going.grant.length (output a.going.grant)
    (seed_at identity a.going.grant a.going.start a.going.gone) (a.read ++ bits))

-- by whether the subframe is closed, by what is awaited, and by the aired bits
abbrev pub hearing : ℕ → Meaning → Bool → Option Awaiting → List ℕ → List ℕ → Hearing
hearing identity m true a bits buffer = record { outcome = Closed; awaited = a; buffer = buffer }
hearing identity m false None bits buffer = record { outcome = Idle; awaited = None; buffer = buffer }
hearing identity m false (Some a) bits buffer =
    reading identity m a bits buffer (first_copy a.going.grant a.going.gone) (last_part a.going.grant a.going.gone)

abbrev pub hears : {X : Type 0} → Kind X → TerminalState → List ℕ → List X → Hearing
hears K t buffer grid =
    hearing t.identity t.chain (closed t.time) t.awaited (unwrap_or (aired_bits K t.identity grid) []) buffer

-- an accepted hear steps the clock
abbrev pub heard : {X : Type 0} → Kind X → TerminalState → List ℕ → List X → TerminalState
heard K t buffer grid =
    record { identity = t.identity; time = after t.time; chain = t.chain; awaited = (hears K t buffer grid).awaited }
