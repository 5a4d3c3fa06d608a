-- The definitions of times and rounds give the calendar's rules. Assumes nothing.
use Rattle.std.proofs.Common.{◌≡◌, Bool, true, false, cond, not, Some, None, Option, refl, rules}
use Rattle.calendar.specs.declared.fault.GrantFault.{GrantFault}
use Rattle.calendar.specs.declared.grant.Grant.{Grant}
use Rattle.calendar.specs.Calendar.{CalendarHolds}
use Rattle.calendar.specs.Grants.{Allowed, grant_refusal}
use Rattle.calendar.specs.Times.{open_at}
use Rattle.calendar.proofs.Openings.{nth_open, nth_only}
use Rattle.calendar.proofs.Rounds.{in_rounds}

passed : (a : Bool) (x : GrantFault) (y : Option GrantFault) → cond (not a) (Some x) y ≡ None → (a ≡ true) × (y ≡ None)
passed true x y h = (refl, h)
passed false x y h = search rules

-- what is not refused is allowed
pub allowed : (g : Grant) → grant_refusal g ≡ None → Allowed g
allowed g h =
    let a = passed _ _ _ h in
    let b = passed _ _ _ a.1 in
    let c = passed _ _ _ b.1 in
    record { called = a.0; counted = b.0; repeated = c.0; sized = (passed _ _ _ c.1).0 }

pub calendar_holds : CalendarHolds
unfolding CalendarHolds
calendar_holds =
    record {
      nth = nth_open;
      only = λ t k u n. nth_only t k u (open_at t k) n (nth_open t k);
      rounds = λ g h. in_rounds g (allowed g h).repeated;
    }
