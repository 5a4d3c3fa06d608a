-- Identities of cells, from 0 to 503. Assumes nothing.
use Rattle.std.specs.Prelude.{ℕ, cond, Some, None, Option, nat_le}
use Rattle.calendar.specs.declared.identity.Identity.{Identity}

abbrev pub number_of : Identity → ℕ
number_of i = i.value

-- an identity of that number, if there is one
abbrev pub known : ℕ → Option ℕ
known n = cond (nat_le n 503) (Some n) None
