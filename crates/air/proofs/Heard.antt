-- What is heard of a subframe, by what it is to the terminal. Assumes nothing.
use Rattle.std.proofs.Common.{◌≡◌, ℕ, Bool, true, false, cond, not, List, [], Some, None, Option, unwrap_or, sym, refl, ap, ◌∙◌, arith}
use Rattle.std.specs.Option.{option_map}
use Rattle.stage.specs.Meaning.{Meaning}
use Rattle.calendar.specs.Courses.{Going}
use Rattle.calendar.specs.Rounds.{first_copy}
use Rattle.air.specs.declared.answers.Outcome.TheVariants as outcomes
use Rattle.air.specs.declared.terminal.slot.Slot.{Slot}
use Rattle.air.specs.declared.terminal.slot.Slot.TheVariants.{Closed, Idle, FirstCopy, Repeat}
use Rattle.air.specs.Terminals.{Awaiting, due, hearing}
use Rattle.air.specs.TerminalViews.{awaiting_of, slot_of, is_due}

-- a closed subframe, and an idle one, leave all as it was
module _ (identity : ℕ) (m : Meaning) (word bits buffer : List ℕ) where
  pub closed_heard : (shut : Bool) (o : Option Going) → slot_of shut o ≡ Closed
      → record { outcome = outcomes.Closed; awaited = option_map (awaiting_of word) o; buffer = buffer }
      ≡ hearing identity m shut (option_map (awaiting_of word) o) bits buffer
  closed_heard true o h = refl
  closed_heard false None h = grind arith
  closed_heard false (Some g) h = grind arith

  pub idle_heard : (shut : Bool) (o : Option Going) → slot_of shut o ≡ Idle
      → record { outcome = outcomes.Idle; awaited = option_map (awaiting_of word) o; buffer = buffer }
      ≡ hearing identity m shut (option_map (awaiting_of word) o) bits buffer
  idle_heard true o h = grind arith
  idle_heard false None h = refl
  idle_heard false (Some g) h = grind arith

-- bits that are not due are not looked at
undue : (identity : ℕ) (m : Meaning) (shut : Bool) (a : Option Awaiting) (bits bits' buffer : List ℕ) → due shut a ≡ false
    → hearing identity m shut a bits buffer ≡ hearing identity m shut a bits' buffer
undue identity m true a bits bits' buffer h = refl
undue identity m false None bits bits' buffer h = refl
undue identity m false (Some a) bits bits' buffer h = rw h refl

-- bits are due at a first copy alone
due_slot : (shut : Bool) (o : Option Going) (word : List ℕ) → is_due (slot_of (not (not shut)) o) ≡ due shut (option_map (awaiting_of word) o)
due_slot true o word = refl
due_slot false None word = refl
due_slot false (Some g) word =
    elim (first_copy g.grant g.gone) as (λ b. is_due (cond b FirstCopy Repeat) ≡ b) [ true ↦ refl | false ↦ refl ]

-- the slot of an awaited grant, at a subframe that is open or shut
module _ (shut free : Bool) (free_is : free ≡ not shut) (o : Option Going) (slot : Slot) (is : slot ≡ slot_of (not free) o) (word : List ℕ) where
  pub due_now : is_due slot ≡ due shut (option_map (awaiting_of word) o)
  due_now = is_due_of ∙ due_slot shut o word
    where
      is_due_of : is_due slot ≡ is_due (slot_of (not (not shut)) o)
      is_due_of = ap is_due is ∙ ap (λ (b : Bool). is_due (slot_of (not b) o)) free_is

  -- bits that are due are the ones aired
  pub aired_heard : (identity : ℕ) (m : Meaning) (bits buffer : List ℕ) (aired : Option (List ℕ)) → (is_due slot ≡ true → Some bits ≡ aired)
      → hearing identity m shut (option_map (awaiting_of word) o) bits buffer
      ≡ hearing identity m shut (option_map (awaiting_of word) o) (unwrap_or aired []) buffer
  aired_heard identity m bits buffer aired h = go (is_due slot) refl
    where
      go : (v : Bool) → is_due slot ≡ v → hearing identity m shut (option_map (awaiting_of word) o) bits buffer
          ≡ hearing identity m shut (option_map (awaiting_of word) o) (unwrap_or aired []) buffer
      go true d = ap (λ (p : Option (List ℕ)). hearing identity m shut (option_map (awaiting_of word) o) (unwrap_or p []) buffer) (h d)
      go false d = undue identity m shut (option_map (awaiting_of word) o) bits (unwrap_or aired []) buffer (sym due_now ∙ d)
