-- A grant under way. Assumes nothing.
use Rattle.std.specs.Prelude.{ℕ, ◌+◌, cond, Some, None, Option, ◌==◌}
use Rattle.calendar.specs.declared.course.Course.{Course}
use Rattle.calendar.specs.declared.grant.Grant.{Grant}
use Rattle.calendar.specs.declared.time.Time.{Time}
use Rattle.calendar.specs.Rounds.{owed}

-- a grant from a start, and how many of its open subframes are gone
pub record Going : Type 0 where
  pub grant : Grant
  pub start : Time
  pub gone : ℕ

abbrev pub going_of : Course → Going
going_of c = record { grant = c.grant; start = c.start; gone = c.gone }

abbrev pub begun : Grant → Time → Going
begun g t = record { grant = g; start = t; gone = 0 }

-- one open subframe on, if there is one more
abbrev pub one_on : Going → Option Going
one_on g =
    cond (owed g.grant g.gone == 0) None
    (Some (record { grant = g.grant; start = g.start; gone = g.gone + 1 }))
