-- A cell and the terminal that follows it, call by call. Assumes nothing.
use Rattle.std.specs.Prelude.{◌≡◌, ℕ, false, cond, List, [], ◌∷◌, length, take, is_some, None, Option}
use Rattle.stage.specs.Meaning.{Meaning}
use Rattle.stage.specs.Refusals.{short}
use Rattle.point.specs.Kinds.{Kind}
use Rattle.calendar.specs.declared.grant.Grant.{Grant}
use Rattle.calendar.specs.Grants.{output}
use Rattle.calendar.specs.Times.{closed}
use Rattle.air.specs.declared.answers.Outcome.{Outcome}
use Rattle.air.specs.declared.answers.Outcome.TheVariants.{Closed, Idle, Part, Block, Spoiled, Repeat}
use Rattle.air.specs.declared.fault.EndFault.{EndFault}
use Rattle.air.specs.Ends.{End}
use Rattle.air.specs.Refusals.{settled, expect_refusal, end_refusal, subframe_refusal}
use Rattle.air.specs.Cells.{CellState, airs, is_covered}
use Rattle.air.specs.Terminals.{TerminalState, awaited_length, short_block, expecting, with_awaited, hear_refusal, hears, heard}
use Rattle.air.specs.TerminalViews.{tuned}
use Rattle.link.specs.Calls.{Call, offer, subframe, withdraw, turned_down, called}

pub record LinkState : Type 0 where
  pub cell : CellState
  pub terminal : TerminalState

-- what the terminal hears with
pub record Buffers : Type 0 where
  pub work : List ℕ
  pub side : List ℕ
  pub block : List ℕ

-- both ends go on air alike: with one identity, time and chain, and no grant
abbrev pub on_air : End → Meaning → LinkState
on_air e m = record {
  cell = record { identity = e.identity; time = e.time; chain = m; pending = None };
  terminal = tuned e m;
}

-- the terminal after `expect`, and after `forget`
abbrev pub told : TerminalState → Grant → TerminalState
told t g = settled (expect_refusal t.chain (is_some t.awaited) g) t (expecting t g)

abbrev pub forgot : TerminalState → TerminalState
forgot t = settled (end_refusal (is_some t.awaited)) t (with_awaited t None)

-- a block is handed up at the outcome block alone: the first bytes of the block buffer
abbrev pub handed_at : ℕ → Outcome → List ℕ → List (List ℕ)
handed_at n Closed buffer = []
handed_at n Idle buffer = []
handed_at n (Part p) buffer = []
handed_at n Block buffer = take n buffer ∷ []
handed_at n Spoiled buffer = []
handed_at n Repeat buffer = []

-- what turns down a grid at a terminal
abbrev pub unheard : {X : Type 0} → Kind X → TerminalState → Buffers → List X → Option EndFault
unheard K t b grid = hear_refusal K t.identity (closed t.time) t.awaited b.work b.side b.block grid

-- the terminal after `hear`, and what it hands up
abbrev pub hearkens : {X : Type 0} → Kind X → TerminalState → Buffers → List X → TerminalState × List (List ℕ)
hearkens K t b grid =
    settled (unheard K t b grid) (t, [])
    (heard K t b.block grid, handed_at (awaited_length t.awaited) (hears K t b.block grid).outcome (hears K t b.block grid).buffer)

-- what follows an accepted call: expect for an offer that is covered, hear for each grid as written, and forget for the withdrawal of an
-- offer that was covered
abbrev pub following : {X : Type 0} → Kind X → LinkState → Buffers → Call X → TerminalState × List (List ℕ)
following K l b (offer g work side) =
    (cond (l.cell.chain.covers g.length (output g)) (told l.terminal g) l.terminal, [])
following K l b (subframe work side grid) = hearkens K l.terminal b (airs K l.cell).grid
following K l b withdraw = (cond (is_covered l.cell.chain l.cell.pending) (forgot l.terminal) l.terminal, [])

-- a refused call is not followed
abbrev pub followed : {X : Type 0} → Kind X → LinkState → Buffers → Call X → TerminalState × List (List ℕ)
followed K l b x = settled (turned_down l.cell x) (l.terminal, []) (following K l b x)

-- both ends after a call, and the blocks handed up at it
abbrev pub linked_on : {X : Type 0} → Kind X → LinkState → Buffers → Call X → LinkState
linked_on K l b x = record { cell = called K l.cell x; terminal = (followed K l b x).0 }

abbrev pub handed_on : {X : Type 0} → Kind X → LinkState → Buffers → Call X → List (List ℕ)
handed_on K l b x = (followed K l b x).1

-- what the block buffer holds once the terminal has heard the cell's subframe in it
abbrev pub block_heard : {X : Type 0} → Kind X → LinkState → Buffers → List ℕ
block_heard K l b =
    settled (unheard K l.terminal b (airs K l.cell).grid) b.block (hears K l.terminal b.block (airs K l.cell).grid).buffer

-- no number turns the terminal's buffers down where it hears
abbrev pub Serves : {X : Type 0} → LinkState → Buffers → Call X → Type 0
Serves l b (offer g work side) = Unit {0}
Serves l b (subframe work side grid) =
    subframe_refusal work side (length grid) ≡ None
    → (short b.work b.side ≡ false) × (short_block l.terminal.awaited b.block ≡ false)
Serves l b withdraw = Unit {0}
