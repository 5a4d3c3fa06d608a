-- The word of an awaited grant, part by part, and what is heard of a subframe. Assumes nothing.
use Rattle.std.proofs.Common.{◌≡◌, ℕ, ◌+◌, ◌*◌, Bool, true, false, cond, eqb, List, [], ◌++◌, take, drop, Some, None, Option, sym, refl, ap, ◌∙◌, ap₂, add-one, arith}
use Rattle.std.specs.Option.{option_map}
use Rattle.std.proofs.lemmas.Bool.{eqb-true}
use Rattle.stage.specs.Meaning.{Meaning}
use Rattle.calendar.specs.declared.grant.Grant.{Grant}
use Rattle.calendar.specs.declared.time.Time.{Time}
use Rattle.calendar.specs.Grants.{output}
use Rattle.calendar.specs.Rounds.{owed, part_at, first_copy, last_part, seed_at}
use Rattle.calendar.specs.Courses.{Going, begun, one_on}
use Rattle.calendar.proofs.Counting.{reads_none, reads_now, reads_next, reads_same}
use Rattle.air.specs.declared.answers.Outcome.TheVariants.{Part, Block, Spoiled, Repeat as Again}
use Rattle.air.specs.declared.terminal.slot.Slot.TheVariants.{FirstCopy, Repeat}
use Rattle.air.specs.Terminals.{Awaiting, Hearing, block_of, one_heard, finished, reading, hearing}
use Rattle.air.specs.Fits.{covered}
use Rattle.air.specs.TerminalViews.{parts_read, awaiting_of, covered_by, slot_of}

-- an awaited grant is one that the chain covers
pub covered_is : (m : Meaning) (o : Option Going) (g : Going) → covered_by m o ≡ Some g → covered m g.grant ≡ true
covered_is m None g h = grind arith
covered_is m (Some x) g h = go (covered m x.grant) refl
  where
    go : (b : Bool) → covered m x.grant ≡ b → covered m g.grant ≡ true
    go true e =
        let k : Some x ≡ Some g = ap (λ (v : Bool). cond v (Some x) None) (sym e) ∙ h in
        let j : x ≡ g = cc in ap (λ (y : Going). covered m y.grant) (sym j) ∙ e
    go false e =
        let k : None ≡ Some g = ap (λ (v : Bool). cond v (Some x) None) (sym e) ∙ h in
        grind arith

-- of a covered grant that was just begun nothing is read
pub begins : (m : Meaning) (table : List ℕ) (g : Going) (grant : Grant) (t : Time) → covered m g.grant ≡ true → g ≡ begun grant t
    → option_map (awaiting_of table) (covered_by m (Some g)) ≡ Some (record { going = begun grant t; read = [] })
begins m table g grant t covers is =
    ap₂ (λ (v : Bool) (h : Going). option_map (awaiting_of table) (cond v (Some h) None)) covers is
    ∙ ap (λ (k : ℕ). Some (record { going = begun grant t; read = take (320 * k) table })) (reads_none grant)

-- what is left of a covered grant, once its word is read so far
left : (m : Meaning) (g : Going) → covered m g.grant ≡ true → (table word read : List ℕ) → take (320 * parts_read g.grant (g.gone + 1)) table ≡ read
    → option_map (awaiting_of table) (covered_by m (one_on g)) ≡ one_heard (awaiting_of word g) read
left m g covers table word read e =
    let s : Going = record { grant = g.grant; start = g.start; gone = g.gone + 1 } in
    elim (eqb (owed g.grant g.gone) 0)
    as (λ b. option_map (awaiting_of table) (covered_by m (cond b None (Some s))) ≡ option_map (λ (h : Going). record { going = h; read = read }) (cond b None (Some s)))
    [ true ↦ refl | false ↦ ap (λ (v : Bool). option_map (awaiting_of table) (cond v (Some s) None)) covers ∙ ap (λ (r : List ℕ). Some (record { going = s; read = r })) e ]

-- an open subframe of an awaited grant
module _ (identity : ℕ) (m : Meaning) (g : Going) (shut : Bool) (o : Option Going) (some : o ≡ Some g)
    (covers : covered m g.grant ≡ true) (word bits buffer : List ℕ) where
  abbrev a : Awaiting
  a = awaiting_of word g

  abbrev heard : Hearing
  heard = hearing identity m shut (option_map (awaiting_of word) o) bits buffer

  reads : (first last : Bool) → shut ≡ false → first_copy g.grant g.gone ≡ first → last_part g.grant g.gone ≡ last
      → reading identity m a bits buffer first last ≡ heard
  reads first last free f l =
      ap₂ (λ (u v : Bool). reading identity m a bits buffer u v) (sym f) (sym l)
      ∙ ap₂ (λ (u : Bool) (p : Option Going). hearing identity m u (option_map (awaiting_of word) p) bits buffer) (sym free) (sym some)

  slot_first : slot_of shut (Some g) ≡ FirstCopy → (shut ≡ false) × (first_copy g.grant g.gone ≡ true)
  slot_first h = grind arith

  slot_again : slot_of shut (Some g) ≡ Repeat → (shut ≡ false) × (first_copy g.grant g.gone ≡ false)
  slot_again h = grind arith

  -- a repeat leaves the word as it was
  pub again_heard : slot_of shut (Some g) ≡ Repeat
      → record { outcome = Again; awaited = option_map (awaiting_of word) (covered_by m (one_on g)); buffer = buffer } ≡ heard
  again_heard slot =
      let now = slot_again slot in
      let same = ap (λ (k : ℕ). take (320 * k) word)
      (ap (parts_read g.grant) (add-one g.gone) ∙ reads_same g.grant g.gone now.1) in
      ap (λ (p : Option Awaiting). record { outcome = Again; awaited = p; buffer = buffer }) (left m g covers word word a.read same)
      ∙ reads false (last_part g.grant g.gone) now.0 now.1 refl

  -- the first copy of a part, whose bits are put into the table
  module _ (slot : slot_of shut (Some g) ≡ FirstCopy) (part : ℕ) (part_is : part ≡ part_at g.grant g.gone) (table : List ℕ)
      (put : take (320 * part + 320) table ≡ take (320 * part) word ++ bits) where
    abbrev all : List ℕ
    all = a.read ++ bits

    abbrev found : List ℕ → Option (List ℕ)
    found w = block_of m g.grant.length (output g.grant) (seed_at identity g.grant g.start g.gone) w

    parts_next : parts_read g.grant (g.gone + 1) ≡ part + 1
    parts_next =
        ap (parts_read g.grant) (add-one g.gone)
        ∙ reads_next g.grant g.gone (slot_first slot).1
        ∙ sym (add-one (part_at g.grant g.gone)) ∙ ap (λ (k : ℕ). k + 1) (sym part_is)

    read : take (320 * parts_read g.grant (g.gone + 1)) table ≡ all
    read =
        let n : 320 * parts_read g.grant (g.gone + 1) ≡ 320 * part + 320 = omega (arith, parts_next) in
        ap (λ (k : ℕ). take k table) n ∙ put
        ∙ ap (λ (k : ℕ). take (320 * k) word ++ bits)
        (part_is ∙ sym (reads_now g.grant g.gone (slot_first slot).1))

    kept : option_map (awaiting_of table) (covered_by m (one_on g)) ≡ one_heard a all
    kept = left m g covers table word all read

    pub part_heard : last_part g.grant g.gone ≡ false
        → record { outcome = Part part; awaited = option_map (awaiting_of table) (covered_by m (one_on g)); buffer = buffer } ≡ heard
    part_heard last =
        ap₂ (λ (k : ℕ) (p : Option Awaiting). record { outcome = Part k; awaited = p; buffer = buffer }) part_is kept
        ∙ reads true false (slot_first slot).0 (slot_first slot).1 last

    module _ (last : last_part g.grant g.gone ≡ true) where
      whole : found (take (output g.grant) table) ≡ found all
      whole =
          let n : part + 1 ≡ g.grant.subframes = ap (λ (k : ℕ). k + 1) part_is ∙ eqb-true (part_at g.grant g.gone + 1) g.grant.subframes last in
          ap found (ap (λ (k : ℕ). take (320 * k) table) (sym n ∙ sym parts_next) ∙ read)

      ends : finished a all buffer (found (take (output g.grant) table)) ≡ heard
      ends = ap (finished a all buffer) whole ∙ reads true true (slot_first slot).0 (slot_first slot).1 last

      pub block_heard : (b : List ℕ) → Some b ≡ found (take (output g.grant) table)
          → record { outcome = Block; awaited = option_map (awaiting_of table) (covered_by m (one_on g)); buffer = b ++ drop g.grant.length buffer } ≡ heard
      block_heard b is =
          ap (λ (p : Option Awaiting). record { outcome = Block; awaited = p; buffer = b ++ drop g.grant.length buffer }) kept
          ∙ ap (finished a all buffer) is ∙ ends

      pub spoiled_heard : None ≡ found (take (output g.grant) table)
          → record { outcome = Spoiled; awaited = None; buffer = buffer } ≡ heard
      spoiled_heard is = ap (finished a all buffer) is ∙ ends
