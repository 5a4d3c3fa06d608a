-- The tests of a call, one after the other. Assumes nothing.
use Rattle.std.proofs.Common.{◌≡◌, ℕ, ◌^◌, ◌<◌, ◌≤◌, Bool, true, false, cond, not, eqb, ltb, List, [], ◌∷◌, length, take, Some, None, sym, refl, ap, ◌∙◌, arith}
use Rattle.std.proofs.lemmas.Bool.{ne_eqb, lt-ltb, not-false, eqb-false}
use Rattle.std.proofs.lemmas.Bool.Decides.{nat_tests}
use Rattle.stage.specs.declared.setting.Setting.{Setting}
use Rattle.stage.specs.declared.fault.StageFault.{StageFault}
use Rattle.stage.specs.declared.fault.StageFault.TheVariants.{ShortBuffer, BadSetting, NoWord, NotCovering, NotBits}
use Rattle.stage.specs.Bits.{binary}
use Rattle.stage.specs.Meaning.{Meaning}
use Rattle.stage.specs.Refusals.{ranged, first_fault, short, opening_tests, forward_tests, back_tests}
use Rattle.stage.specs.Calls.{word_length, covering, forward_refusal, back_refusal}

pub passed : {F : Type 0} (t : Bool) (f : F) (ts : List (Bool × F)) → t ≡ false → first_fault ((t, f) ∷ ts) ≡ first_fault ts
passed t f ts e = ap (λ x. cond x (Some f) (first_fault ts)) e

-- where no test stops a call, each one lets it pass
pub first_none : {F : Type 0} (t : Bool) (f : F) (ts : List (Bool × F)) → first_fault ((t, f) ∷ ts) ≡ None → (t ≡ false) × (first_fault ts ≡ None)
first_none true f ts e = let z : ◌≡◌ {A = ℕ} 0 1 = cc in let y : ⊥ = omega arith in absurd y
first_none false f ts e = (refl, e)

-- tests 4 to 6 pass
pub record Open (m : Meaning) (n : ℕ) (s : Setting) (work side : List ℕ) : Type 0 where
  pub roomy : short work side ≡ false
  pub in_range : ranged s ≡ true
  pub some : 0 < m.size n s.output

module _ (m : Meaning) (n : ℕ) (s : Setting) (work side : List ℕ) (k : ℕ) (k_is : k ≡ word_length m n s) where
  -- what lets a call pass tests 4 to 6, with other tests behind them
  opens : (ts : List (Bool × StageFault))
      → first_fault ((short work side, ShortBuffer) ∷ (not (ranged s), BadSetting) ∷ (eqb k 0, NoWord) ∷ ts) ≡ None
      → Open m n s work side × (first_fault ts ≡ None)
  opens ts e =
      let p = first_none (short work side) ShortBuffer ((not (ranged s), BadSetting) ∷ (eqb k 0, NoWord) ∷ ts) e in
      let q = first_none (not (ranged s)) BadSetting ((eqb k 0, NoWord) ∷ ts) p.1 in
      let t = first_none (eqb k 0) NoWord ts q.1 in
      let in_range : ranged s ≡ true = not-false (ranged s) q.0 in
      let at : word_length m n s ≡ m.size n s.output = ap (λ x. cond x (m.size n s.output) 0) in_range in
      let no : k ≡ 0 → ⊥ = eqb-false k 0 t.0 in
      (record { roomy = p.0; in_range = in_range; some = omega (arith, at, no, k_is) }, t.1)

  pub admitted : None ≡ first_fault (opening_tests s k work side) → Open m n s work side
  admitted e = (opens [] (sym e)).0

  pub forward_admitted : None ≡ first_fault (forward_tests n s k work side) → Open m n s work side × (binary (take n work) ≡ true)
  forward_admitted e =
      let p = opens ((not (binary (take n work)), NotBits) ∷ []) (sym e) in
      (p.0, not-false (binary (take n work)) (first_none (not (binary (take n work))) NotBits [] p.1).0)

  pub back_admitted : (c : Bool) → None ≡ first_fault (back_tests s k c work side) → Open m n s work side × (c ≡ true) × (binary (take k work) ≡ true)
  back_admitted c e =
      let p = opens ((not c, NotCovering) ∷ (not (binary (take k work)), NotBits) ∷ []) (sym e) in
      let q = first_none (not c) NotCovering ((not (binary (take k work)), NotBits) ∷ []) p.1 in
      (p.0, not-false c q.0, not-false (binary (take k work)) (first_none (not (binary (take k work))) NotBits [] q.1).0)

module _ {m : Meaning} {n : ℕ} {s : Setting} {work side : List ℕ} (o : Open m n s work side) where
  pub open_length : word_length m n s ≡ m.size n s.output
  open_length = ap (λ x. cond x (m.size n s.output) 0) o.in_range

  pub open_seeded : s.seed < 2 ^ 31
  open_seeded = let e = o.in_range in grind (arith, nat_tests)

  pub open_work : 7680 ≤ length work
  open_work = let e = o.roomy in grind (arith, nat_tests)

  pub open_side : 7680 ≤ length side
  open_side = let e = o.roomy in grind (arith, nat_tests)

  pub open_covering : covering m n s ≡ m.covers n s.output
  open_covering = let none : ltb 0 (word_length m n s) ≡ true = lt-ltb 0 (word_length m n s) (omega (arith, open_length, o.some)) in rw none

  open_tests : (ts : List (Bool × StageFault)) →
      first_fault ((short work side, ShortBuffer) ∷ (not (ranged s), BadSetting) ∷ (eqb (word_length m n s) 0, NoWord) ∷ ts) ≡ first_fault ts
  open_tests ts =
      let none : eqb (word_length m n s) 0 ≡ false = ne_eqb (word_length m n s) 0 (λ z. omega (arith, open_length, o.some, z)) in
      rw (o.roomy, none, o.in_range)

  pub open_forward : forward_refusal m n s work side ≡ first_fault ((not (binary (take n work)), NotBits) ∷ [])
  open_forward = open_tests ((not (binary (take n work)), NotBits) ∷ [])

  pub open_back : back_refusal m n s work side
      ≡ first_fault ((not (m.covers n s.output), NotCovering) ∷ (not (binary (take (m.size n s.output) work)), NotBits) ∷ [])
  open_back =
      open_tests ((not (covering m n s), NotCovering) ∷ (not (binary (take (word_length m n s) work)), NotBits) ∷ [])
      ∙ rw (open_covering, open_length)
