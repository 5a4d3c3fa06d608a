-- What an end is whether parked or on air, and how a parked one is set. Assumes nothing.
use Rattle.std.specs.Prelude.{ℕ, ◌≤◌, cond, Ok, Err, Result, nat_lt}
use Rattle.calendar.specs.declared.time.Time.{Time}
use Rattle.calendar.specs.Identities.{number_of}
use Rattle.air.specs.declared.fault.ParkFault.{ParkFault}
use Rattle.air.specs.declared.fault.ParkFault.TheVariants.{Identity, Frame, Subframe}
use Rattle.air.specs.declared.parked.Parked.{Parked}

pub record End : Type 0 where
  pub identity : ℕ
  pub time : Time

abbrev pub end_of : Parked → End
end_of p = record { identity = number_of p.identity; time = p.time }

-- what every end has: a known identity, and a time of the calendar
pub record InRange (e : End) : Type 0 where
  pub known : e.identity ≤ 503
  pub framed : e.time.frame ≤ 1023
  pub timed : e.time.subframe ≤ 9

-- a new end has identity, frame and subframe 0
abbrev pub fresh : End
fresh = record { identity = 0; time = record { frame = 0; subframe = 0 } }

-- what setting the identity answers, and the end then
abbrev pub with_identity : End → ℕ → Result Unit ParkFault × End
with_identity e identity =
    cond (nat_lt 503 identity) (Err Identity, e) (Ok tt, record { identity = identity; time = e.time })

-- what setting the time answers, and the end then
abbrev pub with_time : End → ℕ → ℕ → Result Unit ParkFault × End
with_time e frame subframe =
    cond (nat_lt 1023 frame) (Err Frame, e)
    (cond (nat_lt 9 subframe) (Err Subframe, e)
    (Ok tt, record { identity = e.identity; time = record { frame = frame; subframe = subframe } }))
