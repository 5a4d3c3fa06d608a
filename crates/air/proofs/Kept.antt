-- What a cell keeps of the pending grant. Assumes nothing.
use Rattle.std.proofs.Common.{◌≡◌, ℕ, ◌+◌, ◌<◌, Bool, true, false, cond, ◌&&◌, eqb, ltb, List, take, Some, None, Option, sym, refl, ap, ◌∙◌, ap₂, arith}
use Rattle.std.specs.Option.{ForSome, option_map}
use Rattle.std.proofs.lemmas.Bool.{eqb-true, lt-ltb}
use Rattle.std.proofs.lemmas.Bool.Decides.{nat_tests}
use Rattle.stage.specs.Bits.{binary}
use Rattle.stage.specs.Meaning.{Meaning}
use Rattle.calendar.specs.declared.course.Course.{Course}
use Rattle.calendar.specs.declared.grant.Grant.{Grant}
use Rattle.calendar.specs.Courses.{Going, going_of, begun, one_on}
use Rattle.calendar.specs.Grants.{output}
use Rattle.calendar.specs.Rounds.{owed}
use Rattle.air.specs.declared.cell.Cell.{Cell}
use Rattle.air.specs.Cells.{is_covered, offered, one_sent}
use Rattle.air.specs.CellViews.{fitting, sending_of, cell_of}
use Rattle.air.specs.Ends.{end_of}
use Rattle.air.specs.Fits.{fits, mark, word_size}

-- what counts of a kept grant is that grant, and fits the chain
pub counts : (m : Meaning) (p : Option Going) (g : Going) → Some g ≡ fitting m p → (p ≡ Some g) × (fits m g.grant ≡ true)
counts m None g h = let z : ◌≡◌ {A = ℕ} 0 1 = cc in absurd (let w : ⊥ = omega arith in w)
counts m (Some d) g h = go (fits m d.grant) refl
  where
    go : (b : Bool) → fits m d.grant ≡ b → (Some d ≡ Some g) × (fits m g.grant ≡ true)
    go true e =
        let k : Some g ≡ Some d = h ∙ ap (λ (v : Bool). cond v (Some d) None) e in
        let j : g ≡ d = cc in
        (sym k, ap (λ (x : Going). fits m x.grant) j ∙ e)
    go false e =
        let k : Some g ≡ None = h ∙ ap (λ (v : Bool). cond v (Some d) None) e in
        let z : ◌≡◌ {A = ℕ} 0 1 = cc in absurd (let w : ⊥ = omega arith in w)

-- its block is made of bits
pub bits_kept : (table : List ℕ) (p : Option Course) (g : Going) → option_map going_of p ≡ Some g
    → ForSome p (λ c. binary (take (going_of c).grant.length table) ≡ true) → binary (take g.grant.length table) ≡ true
bits_kept table None g e h = let z : ◌≡◌ {A = ℕ} 0 1 = cc in absurd (let w : ⊥ = omega arith in w)
bits_kept table (Some c) g e h =
    let k : going_of c ≡ g = cc in
    ap (λ (x : Going). binary (take x.grant.length table)) (sym k) ∙ h c refl

-- one subframe on, the grant is the same
same_grant : (x y : Going) → Some y ≡ one_on x → y.grant ≡ x.grant
same_grant x y e = go (eqb (owed x.grant x.gone) 0) e
  where
    z : Going
    z = record { grant = x.grant; start = x.start; gone = x.gone + 1 }

    go : (b : Bool) → Some y ≡ cond b None (Some z) → y.grant ≡ x.grant
    go true k = let z : ◌≡◌ {A = ℕ} 0 1 = cc in absurd (let w : ⊥ = omega arith in w)
    go false k = let l : y ≡ z = cc in ap (λ (g : Going). g.grant) l

-- and so is its block
pub bits_next : (table : List ℕ) (g : Going) (r : Option Course) → option_map going_of r ≡ one_on g
    → binary (take g.grant.length table) ≡ true → ForSome r (λ c. binary (take (going_of c).grant.length table) ≡ true)
bits_next table g r e bits = λ c is.
    ap (λ (x : Grant). binary (take x.length table)) (same_grant g (going_of c) (sym (ap (option_map going_of) is) ∙ e)) ∙ bits

-- what is left of a grant that fits the chain fits it
pub fitting_next : (m : Meaning) (table : List ℕ) (g : Going) (q : Option Going) → fits m g.grant ≡ true → q ≡ one_on g
    → option_map (sending_of table) (fitting m q) ≡ one_sent (sending_of table g)
fitting_next m table g q fit e =
    let s : Going = record { grant = g.grant; start = g.start; gone = g.gone + 1 } in
    ap (λ (p : Option Going). option_map (sending_of table) (fitting m p)) e
    ∙ elim (eqb (owed g.grant g.gone) 0)
    as (λ b. option_map (sending_of table) (fitting m (cond b None (Some s))) ≡ option_map (λ (x : Going). record { going = x; block = take g.grant.length table }) (cond b None (Some s)))
    [ true ↦ refl | false ↦ ap (λ (v : Bool). option_map (sending_of table) (cond v (Some s) None)) fit ]

-- a noted grant that fits the chain is pending
pub offers : {S P : Type 0} (meaning : S → Meaning) (x y : Cell S P) (c : Course) (g : Grant) (work : List ℕ)
    → going_of c ≡ begun g x.end.time → fits (meaning x.chain) g ≡ true
    → y.end ≡ x.end → y.chain ≡ x.chain → y.pending ≡ Some c
    → take (going_of c).grant.length y.block ≡ take (going_of c).grant.length work
    → cell_of meaning y ≡ offered (cell_of meaning x) g work
offers meaning x y c g work is fit end_is chain_is pending_is front =
    let m = meaning x.chain in
    let b : Going = begun g x.end.time in
    let held : option_map going_of y.pending ≡ Some b = ap (option_map going_of) pending_is ∙ ap Some is in
    let block : take g.length y.block ≡ take g.length work =
    sym (ap (λ (h : Going). take h.grant.length y.block) is) ∙ front ∙ ap (λ (h : Going). take h.grant.length work) is in
    let p =
    ap₂ (λ n q. option_map (sending_of y.block) (fitting n q)) (ap meaning chain_is) held
    ∙ ap (λ (v : Bool). option_map (sending_of y.block) (cond v (Some b) None)) fit
    ∙ ap (λ (w : List ℕ). Some (record { going = b; block = w })) block in
    λ i. record { identity = (end_of (end_is i)).identity; time = (end_of (end_is i)).time; chain = meaning (chain_is i); pending = p i }

-- a course's word has bits
outputs : (c : Course) → 0 < output (going_of c).grant
outputs c = grind (arith, nat_tests, c.counted)

-- a kept grant that counts is covered as the chain's mark says
pub mark_kept : (m : Meaning) (table : List ℕ) (p : Option Going) (o : Option Course) (r : Bool) → option_map going_of o ≡ fitting m p
    → (o ≡ None → r ≡ false)
    → ((c : Course) → o ≡ Some c → r ≡ (ltb 0 (word_size m (going_of c).grant) && mark m (going_of c).grant))
    → r ≡ is_covered m (option_map (sending_of table) (fitting m p))
mark_kept m table p None r e none some = none refl ∙ ap (λ (q : Option Going). is_covered m (option_map (sending_of table) q)) e
mark_kept m table p (Some c) r e none some =
    let g = (going_of c).grant in
    let size = eqb-true (word_size m g) (output g) (counts m p (going_of c) e).1 in
    let some_bits = lt-ltb 0 (word_size m g) (omega (arith, size, outputs c)) in
    some c refl ∙ ap (λ (v : Bool). v && mark m g) some_bits
    ∙ ap (λ (q : Option Going). is_covered m (option_map (sending_of table) q)) e
