-- Times of the downlink, and which subframes are open. Assumes nothing.
use Rattle.std.specs.Prelude.{ℕ, zero, suc, ◌+◌, ◌%◌, Bool, cond, ◌&&◌, ◌||◌, ◌==◌, nat_lt}
use Rattle.calendar.specs.declared.time.Time.{Time}

-- the subframe after this one: frames run from 0 to 1,023 and round again, and each has subframes 0 to 9
abbrev pub after : Time → Time
after t =
    cond (nat_lt t.subframe 9) (record { frame = t.frame; subframe = t.subframe + 1 })
    (record { frame = (t.frame + 1) % 1024; subframe = 0 })

-- subframes 0 and 5 are closed, and 9 in even frames; the others are open
abbrev pub closed : Time → Bool
closed t = t.subframe == 0 || (t.subframe == 5 || (t.subframe == 9 && t.frame % 2 == 0))

-- the first open subframe at or after a time: no more than two closed ones stand side by side
abbrev pub next_open : Time → Time
next_open t = cond (closed t) (cond (closed (after t)) (after (after t)) (after t)) t

-- open subframe number k, from 0, at or after a time
unfoldable pub open_at : Time → ℕ → Time
open_at t zero = next_open t
open_at t (suc k) = next_open (after (open_at t k))
