-- What two cells air under one grant differs as the image of their blocks' difference. Assumes nothing.
use Rattle.std.specs.Prelude.{◌≡◌, ℕ, suc, cond, List, [], ◌∷◌, ◌++◌, length, take, is_some, Some, None}
use Rattle.stage.specs.Bits.{xor}
use Rattle.stage.specs.Meaning.{Meaning, Lawful, word}
use Rattle.point.specs.Kinds.{Kind}
use Rattle.grid.specs.Grids.{aired_bits}
use Rattle.calendar.specs.declared.time.Time.{Time}
use Rattle.calendar.specs.declared.grant.Grant.{Grant}
use Rattle.calendar.specs.Grants.{output}
use Rattle.calendar.specs.Rounds.{part_at, seed_at}
use Rattle.calendar.specs.Times.{open_at}
use Rattle.air.specs.declared.answers.Airing.TheVariants.{Closed, Idle, Data}
use Rattle.air.specs.Ends.{End, InRange}
use Rattle.air.specs.Refusals.{settled, offer_refusal, subframe_refusal}
use Rattle.air.specs.Cells.{CellState, Written, airs, offered, part_of}
use Rattle.link.specs.Calls.{Call, offer, subframe, withdraw, called}

-- a data subframe: when it was, and its grid
pub record Aired (X : Type 0) : Type 0 where
  pub time : Time
  pub grid : List X

abbrev pub data_grid : {X : Type 0} → Time → Written X → List (Aired X)
data_grid t w = elim w.answer [ Closed ↦ [] | Idle ↦ [] | Data part owed ↦ record { time = t; grid = w.grid } ∷ [] ]

-- the data subframe that a call makes, if any
abbrev pub aired_by : {X : Type 0} → Kind X → CellState → Call X → List (Aired X)
aired_by K c (offer g work side) = []
aired_by K c (subframe work side grid) =
    settled (subframe_refusal work side (length grid)) [] (data_grid c.time (airs K c))
aired_by K c withdraw = []

-- the data subframes of the pending grant, in order, as long as it lasts
abbrev pub airing : {X : Type 0} → Kind X → CellState → List (Call X) → List (Aired X)
airing K c [] = []
airing K c (x ∷ xs) = cond (is_some c.pending) (aired_by K c x ++ airing K (called K c x) xs) []

-- of two cells that send the blocks a and b under one grant: how their data subframes number k compare
pub record Alike {X : Type 0} (K : Kind X) (identity : ℕ) (m : Meaning) (g : Grant) (start : Time) (a b : List ℕ) (k : ℕ) (x y : Aired X) : Type 0 where
  -- both are the grant's open subframe number k
  pub times : (x.time ≡ open_at start k) × (y.time ≡ open_at start k)
  -- each airs the calendar's part of its own block's word, under the seed of the round
  pub first : aired_bits K identity x.grid ≡ Some (part_of (part_at g k) (word m g.length (output g) (seed_at identity g start k) a))
  pub second : aired_bits K identity y.grid ≡ Some (part_of (part_at g k) (word m g.length (output g) (seed_at identity g start k) b))
  -- the exclusive-or of the aired bits is that part of the image of the blocks' exclusive-or
  pub difference : (u v : List ℕ) → aired_bits K identity x.grid ≡ Some u → aired_bits K identity y.grid ≡ Some v
      → xor u v ≡ part_of (part_at g k) (m.image g.length (output g) (xor a b))

-- a relation at the first place of both lists, the second and so on while both last
abbrev pub BothLast : {A B : Type 0} → (ℕ → A → B → Type 0) → ℕ → List A → List B → Type 0
BothLast R k [] ys = Unit {0}
BothLast R k (x ∷ xs) [] = Unit {0}
BothLast R k (x ∷ xs) (y ∷ ys) = R k x y × BothLast R (suc k) xs ys

-- a cell with that identity, time and chain, whatever it may have pending
pub record At (e : End) (m : Meaning) (c : CellState) : Type 0 where
  pub identity_is : c.identity ≡ e.identity
  pub time_is : c.time ≡ e.time
  pub chain_is : c.chain ≡ m

-- Two cells of one chain, identity and time accept two blocks of one length under one RNTI, N and M, and are then called in any way.
abbrev pub DifferencesShow : {X : Type 0} → Kind X → Type 0
DifferencesShow {X} K =
    (m : Meaning) → Lawful m → (e : End) → InRange e
    → (c d : CellState) → At e m c → At e m d
    → (g : Grant) (work side work' side' : List ℕ)
    → offer_refusal m (is_some c.pending) g work side ≡ None → offer_refusal m (is_some d.pending) g work' side' ≡ None
    → (calls calls' : List (Call X))
    → BothLast (Alike K e.identity m g e.time (take g.length work) (take g.length work')) 0
    (airing K (offered c g work) calls) (airing K (offered d g work') calls')
