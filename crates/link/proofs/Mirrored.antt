-- A terminal that has followed a cell hears its subframe as the account ticks it. Assumes nothing.
use Rattle.std.proofs.Common.{◌≡◌, ℕ, suc, ◌+◌, ◌*◌, ◌^◌, ◌<◌, ◌≤◌, Bool, true, false, cond, eqb, List, ◌++◌, take, drop, Some, None, Option, sym, refl, ap, ⊎_elim, add-one, arith, rules}
use Rattle.std.proofs.Math.Seq.{take-add}
use Rattle.std.proofs.lemmas.Bool.{cases_Bool, cond_both, eqb-true}
use Rattle.std.proofs.lemmas.Bool.Decides.{nat_tests}
use Rattle.std.proofs.lemmas.List.{length-take, length-drop, take_all, take_at}
use Rattle.stage.specs.Bits.{Bits}
use Rattle.stage.specs.Meaning.{Meaning, Lawful, word}
use Rattle.stage.proofs.Binary.{binary-take, binary-drop}
use Rattle.stage.specs.Paired.{word_bits}
use Rattle.calendar.specs.declared.grant.Grant.{Grant}
use Rattle.calendar.specs.Grants.{part_bits, output}
use Rattle.calendar.specs.Rounds.{copies, whole, owed, part_at, first_copy, last_part, seed_at}
use Rattle.calendar.proofs.Counting.{copies_some, count_some, reads, seed_first, reads_now, reads_next, reads_same, part_below, last_gone}
use Rattle.calendar.proofs.Rounds.{seed_small}
use Rattle.air.specs.Cells.{Sending, part_of, sent_bits, one_sent}
use Rattle.air.specs.Terminals.{Awaiting, Hearing, awaited_length, one_heard, reading, hearing, block_of}
use Rattle.air.proofs.Found.{found_own}
use Rattle.link.specs.Account.{Note, joins, noted_on}
use Rattle.link.specs.Following.{handed_at}
use Rattle.link.proofs.Passing.{Admitted}
use Rattle.link.proofs.Ticking.{ticked_after, completing}

part_is : (n p : ℕ) (w : List ℕ) → Bits (part_bits * n) w → p < n → Bits part_bits (part_of p w)
part_is n p w h low =
    (simp (length-take, length-drop) (omega (arith, h.0)), binary-take 320 (drop (320 * p) w) (binary-drop (320 * p) w h.1))

-- ---- what a cell keeps of a pending grant, and what its terminal and the account have of it

-- an accepted grant that is not over
pub record Lasts (m : Meaning) (s : Sending) : Type 0 where
  pub admitted : Admitted m s.going.grant s.block
  pub more : s.going.gone < whole s.going.grant
  pub timed : s.going.start.subframe ≤ 9

-- the word of the block in the round of the grant's open subframe number k
abbrev pub word_at : ℕ → Meaning → Sending → ℕ → List ℕ
word_at identity m s k =
    word m s.going.grant.length (output s.going.grant) (seed_at identity s.going.grant s.going.start k) s.block

abbrev pub mirror : ℕ → Meaning → Sending → Awaiting
mirror identity m s =
    record { going = s.going; read = take (part_bits * reads s.going.grant s.going.gone) (word_at identity m s 0) }

abbrev pub awaiting : ℕ → Meaning → Option Sending → Option Awaiting
awaiting identity m None = None
awaiting identity m (Some s) =
    cond (m.covers s.going.grant.length (output s.going.grant)) (Some (mirror identity m s)) None

abbrev pub note_of : Sending → Note
note_of s = record {
  grant = s.going.grant;
  block = s.block;
  been = s.going.gone;
  ticked = ticked_after s.going.grant s.going.gone;
}

abbrev pub noting : Option Sending → Option Note
noting None = None
noting (Some s) = Some (note_of s)

-- one subframe on
abbrev pub next : Sending → Sending
next s = record {
  going = record { grant = s.going.grant; start = s.going.start; gone = suc s.going.gone };
  block = s.block;
}

pub sent_next : (s : Sending) → one_sent s ≡ cond (eqb (owed s.going.grant s.going.gone) 0) None (Some (next s))
sent_next s = rw add-one (search rules)

-- what is pending after a subframe is not over
pub lasts_next : (m : Meaning) (s : Sending) → Lasts m s → eqb (owed s.going.grant s.going.gone) 0 ≡ false → Lasts m (next s)
lasts_next m s lasts e =
    record {
      admitted = lasts.admitted;
      more = grind (arith, nat_tests, lasts.more);
      timed = lasts.timed;
    }

-- the account strikes a grant out where the cell ends it
pub noted_next : (m : Meaning) (s : Sending) → Lasts m s → noted_on (note_of s) ≡ noting (one_sent s)
noted_next m s lasts = rw (sent_next s, ← last_gone s.going.grant s.going.gone lasts.more) (search rules)

module _ (identity : ℕ) (small : identity ≤ 503) (m : Meaning) (law : Lawful m) (s : Sending) (lasts : Lasts m s) where
  abbrev g : Grant
  g = s.going.grant

  abbrev k : ℕ
  k = s.going.gone

  abbrev w : List ℕ
  w = word_at identity m s 0

  few : 0 < copies g
  few = copies_some g lasts.admitted.allowed.repeated

  some : 0 < g.subframes
  some = count_some g lasts.admitted.allowed.counted

  pub sized : 0 < m.size g.length (output g)
  sized = omega (arith, lasts.admitted.size, some)

  pub seeded : (k : ℕ) → seed_at identity g s.going.start k < 2 ^ 31
  seeded k =
      seed_small identity g s.going.start k small (grind (arith, nat_tests, lasts.admitted.allowed.called)) (omega (arith, lasts.timed))

  word_is : (k : ℕ) → Bits (part_bits * g.subframes) (word_at identity m s k)
  word_is k = rw lasts.admitted.size at (word_bits law g.length (output g) (seed_at identity g s.going.start k) sized (seeded k) s.block lasts.admitted.bits)

  pub sent_is : Bits part_bits (sent_bits identity m s)
  sent_is = part_is g.subframes (part_at g k) (word_at identity m s k) (word_is k) (part_below g k few some)

  -- one part more
  read_more : first_copy g k ≡ true → take (part_bits * reads g k) w ++ sent_bits identity m s ≡ take (part_bits * reads g (suc k)) w
  read_more h =
      let here = reads_now g k h in
      let there : 320 * reads g (suc k) ≡ 320 * part_at g k + 320 = omega (arith, reads_next g k h) in
      rw (here, there, seed_first identity g s.going.start k h) (sym (take-add (320 * part_at g k) 320 w))

  -- the last part: the word is whole
  read_all : first_copy g k ≡ true → last_part g k ≡ true → take (part_bits * reads g (suc k)) w ≡ w
  read_all h l =
      take_all (320 * reads g (suc k)) w
      (omega (arith, (word_is 0).0, reads_next g k h, eqb-true (part_at g k + 1) g.subframes l))

  module _ (cov : m.covers g.length (output g) ≡ true) where
    awaited_next : (read : List ℕ) → read ≡ take (part_bits * reads g (suc k)) w
        → one_heard (mirror identity m s) read ≡ awaiting identity m (one_sent s)
    awaited_next read e =
        ⊎_elim (λ h. rw h) (λ (h : eqb (owed g k) 0 ≡ false). rw (h, cov, e, add-one)) (cases_Bool (eqb (owed g k) 0))

    -- the word that is read whole has the block
    found : first_copy g k ≡ true → last_part g k ≡ true
        → block_of m g.length (output g) (seed_at identity g s.going.start k) (take (part_bits * reads g k) w ++ sent_bits identity m s) ≡ Some s.block
    found e l =
        rw (read_more e, read_all e l, seed_first identity g s.going.start k e)
        (found_own law g.length (output g) (seed_at identity g s.going.start 0) sized (seeded 0) cov s.block lasts.admitted.bits)

  -- how a hearing has to come out, at a block of n bits
  pub record Right (n : ℕ) (h : Hearing) : Type 0 where
    pub awaited_is : h.awaited ≡ awaiting identity m (one_sent s)
    pub handed_is : handed_at n h.outcome h.buffer ≡ joins m (note_of s)

  right : m.covers g.length (output g) ≡ true → (buffer : List ℕ) (first last : Bool) → first_copy g k ≡ first → last_part g k ≡ last
      → Right g.length (reading identity m (mirror identity m s) (sent_bits identity m s) buffer first last)
  right cov buffer false last e l = record {
    awaited_is = awaited_next cov _ (ap (λ (p : ℕ). take (320 * p) w) (sym (reads_same g k e)));
    handed_is = rw (cov, completing g k few some, e);
  }
  right cov buffer true false e l = record {
    awaited_is = awaited_next cov _ (read_more e);
    handed_is = rw (cov, completing g k few some, e, l);
  }
  right cov buffer true true e l =
      rw (found cov e l)
      (record {
        awaited_is = awaited_next cov _ (read_more e);
        handed_is = rw (cov, completing g k few some, e, l, take_at s.block (drop g.length buffer) g.length lasts.admitted.bits.0);
      })

  pub heard_right : (buffer : List ℕ)
      → Right (awaited_length (awaiting identity m (Some s))) (hearing identity m false (awaiting identity m (Some s)) (sent_bits identity m s) buffer)
  heard_right buffer =
      ⊎_elim (λ cov. rw cov (right cov buffer _ _ refl refl))
      (λ cov. rw cov (record {
        awaited_is = rw (sent_next s)
            (cond_both (eqb (owed g k) 0) None (Some (next s)) (λ p. None ≡ awaiting identity m p) (λ _. refl) (λ _. rw cov));
        handed_is = rw cov;
      }))
      (cases_Bool (m.covers g.length (output g)))
