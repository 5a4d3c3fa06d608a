-- The contracts of `forward` and `back` once tests 4 to 6 pass, in both directions. Assumes nothing.
use Rattle.std.proofs.Common.{◌≡◌, ℕ, true, false, ◌||◌, ltb, List, length, take, Some, None, Result, ◌∙◌, ap₂}
use Rattle.stage.specs.declared.setting.Setting.{Setting}
use Rattle.stage.specs.declared.fault.StageFault.{StageFault}
use Rattle.stage.specs.declared.fault.StageFault.TheVariants.{NotCovering, NotBits}
use Rattle.stage.specs.Bits.{binary}
use Rattle.stage.specs.Meaning.{Meaning, word}
use Rattle.stage.specs.Refusals.{short}
use Rattle.stage.specs.Calls.{forward_refusal, back_refusal, Accepted, Untouched, Undone, Forward, Back}
use Rattle.stage.proofs.Opened.{Open, open_length, open_forward, open_back}

-- the tests on buffers of the same lengths
pub same-room : (work side w d : List ℕ) → length w ≡ length work → length d ≡ length side → short work side ≡ false → short w d ≡ false
same-room work side w d p q e = ap₂ (λ x y. ltb x 7680 || ltb y 7680) p q ∙ e

module _ {m : Meaning} {n : ℕ} {s : Setting} {work side : List ℕ} (o : Open m n s work side) (w d : List ℕ) (r : Result ℕ StageFault) where
  forward_none : binary (take n work) ≡ true → forward_refusal m n s work side ≡ None
  forward_none e = open_forward o ∙ rw e

  forward_some : binary (take n work) ≡ false → forward_refusal m n s work side ≡ Some NotBits
  forward_some e = open_forward o ∙ rw e

  pub forward_accepted : binary (take n work) ≡ true → Forward m n s work side w d r → Accepted (word m n s.output s.seed (take n work)) work side w d r
  forward_accepted e h = rw (forward_none e) at h

  pub forward_refused : binary (take n work) ≡ false → Forward m n s work side w d r → Untouched NotBits work side w d r
  forward_refused e h = rw (forward_some e) at h

  pub accept_forward : binary (take n work) ≡ true → Accepted (word m n s.output s.seed (take n work)) work side w d r → Forward m n s work side w d r
  accept_forward e h = rw (forward_none e) h

  pub refuse_forward : binary (take n work) ≡ false → Untouched NotBits work side w d r → Forward m n s work side w d r
  refuse_forward e h = rw (forward_some e) h

  back_none : m.covers n s.output ≡ true → binary (take (m.size n s.output) work) ≡ true → back_refusal m n s work side ≡ None
  back_none c e = open_back o ∙ rw (c, e)

  back_bits : m.covers n s.output ≡ true → binary (take (m.size n s.output) work) ≡ false → back_refusal m n s work side ≡ Some NotBits
  back_bits c e = open_back o ∙ rw (c, e)

  back_cover : m.covers n s.output ≡ false → back_refusal m n s work side ≡ Some NotCovering
  back_cover c = open_back o ∙ rw c

  pub back_undone : m.covers n s.output ≡ true → binary (take (m.size n s.output) work) ≡ true
      → Back m n s work side w d r → Undone m n s (take (m.size n s.output) work) work side w d r
  back_undone c e h = rw (back_none c e, open_length o) at h

  pub back_refused : m.covers n s.output ≡ true → binary (take (m.size n s.output) work) ≡ false
      → Back m n s work side w d r → Untouched NotBits work side w d r
  back_refused c e h = rw (back_bits c e) at h

  pub undo_back : m.covers n s.output ≡ true → binary (take (m.size n s.output) work) ≡ true
      → Undone m n s (take (m.size n s.output) work) work side w d r → Back m n s work side w d r
  undo_back c e h = rw (back_none c e, open_length o) h

  pub refuse_back : m.covers n s.output ≡ true → binary (take (m.size n s.output) work) ≡ false
      → Untouched NotBits work side w d r → Back m n s work side w d r
  refuse_back c e h = rw (back_bits c e) h

  pub refuse_cover : m.covers n s.output ≡ false → Untouched NotCovering work side w d r → Back m n s work side w d r
  refuse_cover c h = rw (back_cover c) h
