-- What the definitions of times and rounds come to, in the words of the calendar's rules. Assumes nothing.
use Rattle.std.specs.Prelude.{◌≡◌, ℕ, zero, suc, ◌+◌, ◌*◌, ◌/◌, ◌<◌, false, cond, None}
use Rattle.calendar.specs.declared.grant.Grant.{Grant}
use Rattle.calendar.specs.declared.time.Time.{Time}
use Rattle.calendar.specs.Grants.{grant_refusal}
use Rattle.calendar.specs.Rounds.{copies, round, whole, part_at, round_first}
use Rattle.calendar.specs.Times.{after, closed, open_at}

-- the time j subframes on
unfoldable pub later : Time → ℕ → Time
later t zero = t
later t (suc j) = after (later t j)

-- how many of the j subframes from a time on are open
unfoldable pub open_among : Time → ℕ → ℕ
open_among t zero = 0
open_among t (suc j) = cond (closed (later t j)) (open_among t j) (suc (open_among t j))

-- u is open subframe number k, from 0, at or after t: it is open, and the steps from t up to it pass k open ones
pub record NthOpen (t : Time) (k : ℕ) (u : Time) : Type 0 where
  pub steps : ℕ
  pub reached : u ≡ later t steps
  pub is_open : closed u ≡ false
  pub passed : open_among t steps ≡ k

-- M / r rounds, and in each every part, from part 0 up, goes out r times running: where copy c of part p in round i is
pub record InRounds (g : Grant) : Type 0 where
  pub ends : whole g ≡ g.repetitions / copies g * round g
  pub part : (i p c : ℕ) → p < g.subframes → c < copies g → part_at g (i * round g + p * copies g + c) ≡ p
  pub first : (i p c : ℕ) → p < g.subframes → c < copies g → round_first g (i * round g + p * copies g + c) ≡ i * round g

-- `open_at` gives open subframe number k, which is the only one, and an allowed grant goes out in rounds
pub record Rules : Type 0 where
  pub nth : (t : Time) (k : ℕ) → NthOpen t k (open_at t k)
  pub only : (t : Time) (k : ℕ) (u : Time) → NthOpen t k u → u ≡ open_at t k
  pub rounds : (g : Grant) → grant_refusal g ≡ None → InRounds g

-- Kept shut, so that a caller's `search` does not try its clauses on every equation.
unfoldable pub CalendarHolds : Type 0
CalendarHolds = Rules
