-- The account: from a cell's calls alone, the covered blocks of which every part went out. Assumes nothing.
use Rattle.std.specs.Prelude.{ℕ, zero, suc, Bool, true, false, cond, not, ◌&&◌, List, [], ◌∷◌, ◌++◌, take, is_some, Some, None, Option, ◌==◌}
use Rattle.stage.specs.Meaning.{Meaning}
use Rattle.calendar.specs.declared.time.Time.{Time}
use Rattle.calendar.specs.declared.grant.Grant.{Grant}
use Rattle.calendar.specs.Grants.{member, output}
use Rattle.calendar.specs.Rounds.{part_at, whole}
use Rattle.calendar.specs.Times.{after, closed}
use Rattle.air.specs.Ends.{End}
use Rattle.air.specs.Refusals.{settled}
use Rattle.link.specs.Calls.{Call, offer, subframe, withdraw, refusal}

-- a noted grant and its block: how many of its open subframes have been, and the parts ticked in them
pub record Note : Type 0 where
  pub grant : Grant
  pub block : List ℕ
  pub been : ℕ
  pub ticked : List ℕ

pub record Account : Type 0 where
  pub identity : ℕ
  pub time : Time
  pub chain : Meaning
  pub noted : Option Note
  pub blocks : List (List ℕ)

-- it starts with the cell's identity, time and chain, no grant and an empty list
abbrev pub opened : End → Meaning → Account
opened e m = record { identity = e.identity; time = e.time; chain = m; noted = None; blocks = [] }

-- the tick of an open subframe: the part that the calendar sends there
abbrev pub ticks : Note → List ℕ
ticks n = part_at n.grant n.been ∷ n.ticked

-- whether each of the first n parts is ticked
abbrev pub complete : ℕ → List ℕ → Bool
complete zero ticked = true
complete (suc n) ticked = member n ticked && complete n ticked

-- whether this tick is the one that completes all parts
abbrev pub completes : Note → Bool
completes n = complete n.grant.subframes (ticks n) && not (complete n.grant.subframes n.ticked)

-- the block joins the list at that tick, if the grant is covered
abbrev pub joins : Meaning → Note → List (List ℕ)
joins m n = cond (m.covers n.grant.length (output n.grant) && completes n) (n.block ∷ []) []

-- the note after an open subframe: struck out after N × M of them
abbrev pub noted_on : Note → Option Note
noted_on n =
    cond (suc n.been == whole n.grant) None
    (Some (record { grant = n.grant; block = n.block; been = suc n.been; ticked = ticks n }))

-- a subframe, by whether it is closed and by what is noted: the note then, and what joins the list
abbrev pub ticking : Meaning → Bool → Option Note → Option Note × List (List ℕ)
ticking m true n = (n, [])
ticking m false None = (None, [])
ticking m false (Some n) = (noted_on n, joins m n)

-- an accepted call
abbrev pub booking : {X : Type 0} → Account → Call X → Account
booking a (offer g work side) = record {
  identity = a.identity;
  time = a.time;
  chain = a.chain;
  noted = Some (record { grant = g; block = take g.length work; been = 0; ticked = [] });
  blocks = a.blocks;
}
booking a (subframe work side grid) = record {
  identity = a.identity;
  time = after a.time;
  chain = a.chain;
  noted = (ticking a.chain (closed a.time) a.noted).0;
  blocks = a.blocks ++ (ticking a.chain (closed a.time) a.noted).1;
}
booking a withdraw = record { identity = a.identity; time = a.time; chain = a.chain; noted = None; blocks = a.blocks }

-- any call: it is judged by the numbers of the refusals, and a refused one alters nothing
abbrev pub booked : {X : Type 0} → Account → Call X → Account
booked a x = settled (refusal a.chain (is_some a.noted) x) a (booking a x)
