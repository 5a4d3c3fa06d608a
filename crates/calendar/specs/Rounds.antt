-- Which part of a grant's word goes out in which of its open subframes, and under which seed. Assumes nothing.
use Rattle.std.specs.Prelude.{ℕ, ◌+◌, ◌-◌, ◌*◌, ◌/◌, ◌%◌, ◌^◌, min, Bool, ◌&&◌, ◌==◌, nat_lt}
use Rattle.calendar.specs.declared.grant.Grant.{Grant}
use Rattle.calendar.specs.declared.time.Time.{Time}
use Rattle.calendar.specs.Times.{open_at}

-- how often running a part goes out, r
abbrev pub copies : Grant → ℕ
copies g = min g.repetitions 4

-- the open subframes of a round, which has each part so often
abbrev pub round : Grant → ℕ
round g = g.subframes * copies g

-- the open subframes of the whole grant
abbrev pub whole : Grant → ℕ
whole g = g.subframes * g.repetitions

-- Of open subframe number k, from 0, of a grant:

-- the part that goes out there
unfoldable pub part_at : Grant → ℕ → ℕ
part_at g k = k % round g / copies g

-- the number of its round's first open subframe
unfoldable pub round_first : Grant → ℕ → ℕ
round_first g k = k / round g * round g

-- how many of the grant's open subframes come after it
abbrev pub owed : Grant → ℕ → ℕ
owed g k = whole g - (k + 1)

-- whether a part goes out there for the first time
unfoldable pub first_copy : Grant → ℕ → Bool
first_copy g k = nat_lt k (round g) && k % copies g == 0

-- whether the word's last part goes out there
abbrev pub last_part : Grant → ℕ → Bool
last_part g k = part_at g k + 1 == g.subframes

-- the seed of an identity and an RNTI at a time
abbrev pub seed_of : ℕ → ℕ → Time → ℕ
seed_of identity rnti t = rnti * 2 ^ 14 + t.frame % 2 * 2 ^ 13 + t.subframe * 2 ^ 9 + identity

-- the seed there: that of the round's first open subframe
unfoldable pub seed_at : ℕ → Grant → Time → ℕ → ℕ
seed_at identity g start k = seed_of identity g.rnti (open_at start (round_first g k))
