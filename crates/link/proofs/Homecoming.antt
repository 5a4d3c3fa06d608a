-- After every list of calls, the terminal and the account are what the cell makes them. Assumes nothing.
use Rattle.std.proofs.Common.{◌≡◌, ℕ, ◌≤◌, Bool, true, false, cond, not, ◌&&◌, eqb, List, [], ◌∷◌, ◌++◌, length, take, is_some, IfSome, Some, None, Option, unwrap_or, sym, refl, ap, ◌∙◌, ⊎_elim, subst, arith}
use Rattle.std.proofs.lemmas.Bool.{and_right, cases_Bool, cond_both}
use Rattle.std.proofs.lemmas.List.{append-nil, append_assoc}
use Rattle.stage.specs.Meaning.{Meaning, Lawful}
use Rattle.stage.specs.Refusals.{short}
use Rattle.stage.proofs.Binary.{binary-at}
use Rattle.point.specs.Kinds.{Kind, LawfulKind}
use Rattle.grid.specs.Grids.{vacant, marked, carrying, aired_bits}
use Rattle.grid.proofs.Carried.{length-vacant, length_marked, length-carrying, read_back}
use Rattle.calendar.specs.declared.time.Time.{Time}
use Rattle.calendar.specs.declared.grant.Grant.{Grant}
use Rattle.calendar.specs.Grants.{output}
use Rattle.calendar.specs.Rounds.{owed}
use Rattle.calendar.specs.Times.{closed}
use Rattle.calendar.specs.Courses.{begun}
use Rattle.calendar.proofs.Counting.{whole_some, reads_none}
use Rattle.calendar.proofs.Openings.{after_small}
use Rattle.air.specs.declared.fault.EndFault.{EndFault}
use Rattle.air.specs.Ends.{End, InRange}
use Rattle.air.specs.Refusals.{settled, offer_refusal, end_refusal}
use Rattle.air.specs.Cells.{CellState, Sending, written, offered, with_pending, sent_bits, is_covered}
use Rattle.air.specs.Terminals.{TerminalState, Awaiting, Hearing, awaited_length, short_block, due, hear_refusal, hearing}
use Rattle.link.specs.Calls.{Call, offer, subframe, withdraw, turned_down, accepting, called}
use Rattle.link.specs.Account.{Account, ticking, booking, booked, opened}
use Rattle.link.specs.Following.{LinkState, Buffers, on_air, told, forgot, handed_at, following, followed, linked_on, handed_on, Serves}
use Rattle.link.specs.Home.{Run, handed_over, Served, accounted, BlocksComeHome}
use Rattle.link.proofs.Passing.{Admitted, offer_admits, expect_accepts}
use Rattle.link.proofs.Mirrored.{Lasts, awaiting, noting, next, sent_next, lasts_next, noted_next, sent_is, heard_right}

-- ---- what holds between calls

abbrev pub Pending : Meaning → Option Sending → Type 0
Pending m p = IfSome p (Lasts m)

pub record Sound (c : CellState) : Type 0 where
  pub small : c.identity ≤ 503
  pub timed : c.time.subframe ≤ 9
  pub law : Lawful c.chain
  pub pends : Pending c.chain c.pending

-- the terminal that has followed a cell, and the account of it with that list
abbrev companion : CellState → TerminalState
companion c = record { identity = c.identity; time = c.time; chain = c.chain; awaited = awaiting c.identity c.chain c.pending }

abbrev account_of : CellState → List (List ℕ) → Account
account_of c blocks = record { identity = c.identity; time = c.time; chain = c.chain; noted = noting c.pending; blocks = blocks }

-- a call left that cell; the terminal that it left, what it handed up, and the account are those that the cell makes
record Tied (c : CellState) (blocks : List (List ℕ)) (f : TerminalState × List (List ℕ)) (a : Account) : Type 0 where
  pub sound : Sound c
  pub terminal_is : f.0 ≡ companion c
  pub account_is : a ≡ account_of c (blocks ++ f.1)

-- ---- a subframe

module _ {X : Type 0} (K : Kind X) (kind : LawfulKind K) (identity : ℕ) (small : identity ≤ 503) (m : Meaning) (law : Lawful m) (t : Time) where
  -- what a data subframe airs
  pub carried : (s : Sending) → Lasts m s → aired_bits K identity (carrying K 168 identity t.subframe (sent_bits identity m s)) ≡ Some (sent_bits identity m s)
  carried s lasts =
      let b = sent_is identity small m law s lasts in
      read_back K identity t.subframe kind (sent_bits identity m s) b.0 (λ k h. binary-at (sent_bits identity m s) k b.1 (omega (arith, h, b.0)))

  -- what the terminal makes of the grid that the cell writes
  abbrev hearing_of : Bool → Option Sending → List ℕ → Hearing
  hearing_of shut p buffer =
      hearing identity m shut (awaiting identity m p) (unwrap_or (aired_bits K identity (written K identity m t shut p).grid) []) buffer

  -- it accepts the grid, and both go on alike
  record Follows (shut : Bool) (p : Option Sending) (b : Buffers) : Type 0 where
    pub accepted : hear_refusal K identity shut (awaiting identity m p) b.work b.side b.block (written K identity m t shut p).grid ≡ None
    pub awaited_is : (hearing_of shut p b.block).awaited ≡ awaiting identity m (written K identity m t shut p).pending
    pub handed_is :
        handed_at (awaited_length (awaiting identity m p)) (hearing_of shut p b.block).outcome (hearing_of shut p b.block).buffer
        ≡ (ticking m shut (noting p)).1
    pub noted_is : (ticking m shut (noting p)).0 ≡ noting (written K identity m t shut p).pending

  hears_it : (shut : Bool) (a : Option Awaiting) (b : Buffers) (grid : List X)
      → short b.work b.side ≡ false → short_block a b.block ≡ false → length grid ≡ 168
      → (due shut a && not (is_some (aired_bits K identity grid))) ≡ false
      → hear_refusal K identity shut a b.work b.side b.block grid ≡ None
  unfolding hear_refusal
  hears_it shut a b grid h r l d = rw (h, l, r, d)

  follows : (shut : Bool) (p : Option Sending) → Pending m p → (b : Buffers) → short b.work b.side ≡ false
      → short_block (awaiting identity m p) b.block ≡ false → Follows shut p b
  follows true p lasts b h r = record {
    accepted = hears_it true (awaiting identity m p) b (vacant K 168) h r (length-vacant K 168) refl;
    awaited_is = refl;
    handed_is = refl;
    noted_is = refl;
  }
  follows false None lasts b h r = record {
    accepted = hears_it false None b (marked K 168 identity t.subframe) h r (length_marked K 168 identity t.subframe) refl;
    awaited_is = refl;
    handed_is = refl;
    noted_is = refl;
  }
  follows false (Some s) lasts b h r =
      let air = carried s lasts in
      let good = heard_right identity small m law s lasts b.block in
      record {
        accepted = hears_it false (awaiting identity m (Some s)) b (carrying K 168 identity t.subframe (sent_bits identity m s)) h r
            (length-carrying K 168 identity t.subframe (sent_bits identity m s))
            (and_right (due false (awaiting identity m (Some s))) _ (ap (λ o. not (is_some o)) air));
        awaited_is = rw air good.awaited_is;
        handed_is = rw air good.handed_is;
        noted_is = noted_next m s lasts;
      }

pends_after : {X : Type 0} (K : Kind X) (identity : ℕ) (m : Meaning) (t : Time) (shut : Bool) (p : Option Sending) → Pending m p
    → Pending m (written K identity m t shut p).pending
pends_after K identity m t true p lasts = lasts
pends_after K identity m t false None lasts = tt
pends_after K identity m t false (Some s) lasts =
    rw (sent_next s) (cond_both (eqb (owed s.going.grant s.going.gone) 0) None (Some (next s)) (Pending m) (λ _. tt) (lasts_next m s lasts))

-- ---- an offer

-- what is pending after an accepted offer
abbrev pub sending_new : Grant → List ℕ → Time → Sending
sending_new g work t = record { going = begun g t; block = take g.length work }

pub lasts_new : (m : Meaning) (busy : Bool) (g : Grant) (work side : List ℕ) (t : Time) → offer_refusal m busy g work side ≡ None
    → t.subframe ≤ 9 → Lasts m (sending_new g work t)
lasts_new m busy g work side t e timed =
    let a = (offer_admits m busy g work side e).1 in
    record { admitted = a; more = whole_some g a.allowed.counted a.allowed.repeated; timed = timed }

-- the terminal is told of the grant, where it is covered
told_is : (c : CellState) (g : Grant) (work : List ℕ) (p : Option Sending) → (is_some p ≡ false) × Admitted c.chain g (take g.length work)
    → cond (c.chain.covers g.length (output g)) (told (companion (with_pending c p)) g) (companion (with_pending c p))
    ≡ companion (offered c g work)
told_is c g work (Some s) a = cc (a.0)
told_is c g work None a =
    ⊎_elim (λ e. rw (expect_accepts c.chain g (take g.length work) a.1 e, e, reads_none g)) (λ e. rw e)
    (cases_Bool (c.chain.covers g.length (output g)))

-- ---- a withdrawal

forgot_is : (c : CellState) (p : Option Sending)
    → cond (is_covered c.chain p) (forgot (companion (with_pending c p))) (companion (with_pending c p)) ≡ companion (with_pending c None)
unfolding end_refusal
forgot_is c None = refl
forgot_is c (Some s) = ⊎_elim (λ e. rw e) (λ e. rw e) (cases_Bool (c.chain.covers s.going.grant.length (output s.going.grant)))

-- ---- any call

busy_noted : (p : Option Sending) → is_some (noting p) ≡ is_some p
busy_noted None = refl
busy_noted (Some s) = refl

module _ {X : Type 0} (K : Kind X) (kind : LawfulKind K) where
  abbrev tied_link : CellState → LinkState
  tied_link c = record { cell = c; terminal = companion c }

  -- a refused call alters nothing; what an accepted one leaves has to be shown
  settle : (r : Option EndFault) (c c' : CellState) (blocks : List (List ℕ)) (f : TerminalState × List (List ℕ)) (a : Account) → Sound c
      → (r ≡ None → Tied c' blocks f a)
      → Tied (settled r c c') blocks (settled r (companion c, []) f) (settled r (account_of c blocks) a)
  settle None c c' blocks f a sound h = h refl
  settle (Some x) c c' blocks f a sound h = record { sound = sound; terminal_is = refl; account_is = rw append-nil }

  accepted_call : (c : CellState) (blocks : List (List ℕ)) (b : Buffers) (x : Call X) → Sound c → Serves (tied_link c) b x
      → turned_down c x ≡ None
      → Tied (accepting K c x) blocks (following K (tied_link c) b x) (booking (account_of c blocks) x)
  accepted_call c blocks b (offer g work side) sound serves e = record {
    sound = record {
      small = sound.small;
      timed = sound.timed;
      law = sound.law;
      pends = lasts_new c.chain (is_some c.pending) g work side c.time e sound.timed;
    };
    terminal_is = told_is c g work c.pending (offer_admits c.chain (is_some c.pending) g work side e);
    account_is = rw append-nil;
  }
  accepted_call c blocks b (subframe work side grid) sound serves e =
      let fit = serves e in
      let f = follows K kind c.identity sound.small c.chain sound.law c.time (closed c.time) c.pending sound.pends b fit.0 fit.1 in
      record {
        sound = record {
          small = sound.small;
          timed = after_small 9 (omega arith) c.time sound.timed;
          law = sound.law;
          pends = pends_after K c.identity c.chain c.time (closed c.time) c.pending sound.pends;
        };
        terminal_is = rw (f.accepted, f.awaited_is);
        account_is = rw (f.accepted, f.handed_is, f.noted_is);
      }
  accepted_call c blocks b withdraw sound serves e = record {
    sound = record { small = sound.small; timed = sound.timed; law = sound.law; pends = tt };
    terminal_is = forgot_is c c.pending;
    account_is = rw append-nil;
  }

  -- each call keeps the tie
  step : (c : CellState) (blocks : List (List ℕ)) (b : Buffers) (x : Call X) → Sound c → Serves (tied_link c) b x
      → Tied (called K c x) blocks (followed K (tied_link c) b x) (booked (account_of c blocks) x)
  step c blocks b x sound serves =
      rw (busy_noted c.pending)
      (settle (turned_down c x) c (accepting K c x) blocks (following K (tied_link c) b x) (booking (account_of c blocks) x) sound
      (accepted_call c blocks b x sound serves))

  running : (calls : Run X) (c : CellState) (blocks : List (List ℕ)) → Sound c → Served K (tied_link c) calls
      → blocks ++ handed_over K (tied_link c) calls ≡ (accounted (account_of c blocks) calls).blocks
  running [] c blocks sound served = append-nil blocks
  running (x ∷ xs) c blocks sound served =
      let s = step c blocks x.1 x.0 sound served.0 in
      let on : linked_on K (tied_link c) x.1 x.0 ≡ tied_link (called K c x.0) = rw s.terminal_is in
      let more = blocks ++ handed_on K (tied_link c) x.1 x.0 in
      sym (append_assoc blocks (handed_on K (tied_link c) x.1 x.0) (handed_over K (linked_on K (tied_link c) x.1 x.0) xs))
      ∙ ap (λ l. more ++ handed_over K l xs) on
      ∙ running xs (called K c x.0) more s.sound (subst (λ l. Served K l xs) on served.1)
      ∙ sym (ap (λ a. (accounted a xs).blocks) s.account_is)

  pub blocks_come_home : (m : Meaning) → Lawful m → (e : End) → InRange e → (l : LinkState) → l ≡ on_air e m
      → BlocksComeHome K l (opened e m)
  blocks_come_home m law e range l is calls served =
      rw is (running calls (record { identity = e.identity; time = e.time; chain = m; pending = None }) []
      (record { small = range.known; timed = range.timed; law = law; pends = tt }) (rw is at served))
