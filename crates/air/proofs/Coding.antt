-- What the chain makes of a block, and of a whole word. Assumes nothing.
use Rattle.std.proofs.Common.{◌≡◌, ℕ, ◌^◌, ◌<◌, Bool, true, false, ◌&&◌, ltb, leb, List, length, take, Some, None, Ok, Err, Option, Result, sym, refl, ap, ◌∙◌, arith}
use Rattle.std.specs.Option.{option_map}
use Rattle.std.specs.Result.{result_ok}
use Rattle.std.proofs.lemmas.Bool.{and_parts, ltb-true, eqb-true, both_ways}
use Rattle.stage.specs.declared.fault.StageFault.{StageFault}
use Rattle.stage.specs.declared.setting.Setting.{Setting}
use Rattle.stage.specs.Bits.{binary, Bits}
use Rattle.stage.specs.Calls.{Forward, Back}
use Rattle.stage.specs.Meaning.{Meaning, Lawful, word}
use Rattle.stage.specs.Refusals.{ranged, short}
use Rattle.stage.proofs.Opened.{Open, open_seeded}
use Rattle.stage.proofs.Padding.{take-padded}
use Rattle.stage.specs.Paired.{word_bits}
use Rattle.stage.proofs.Past.{forward_accepted, back_undone, back_refused}
use Rattle.calendar.specs.declared.grant.Grant.{Grant}
use Rattle.calendar.specs.Grants.{output}
use Rattle.air.specs.Fits.{word_size, fits}
use Rattle.air.specs.Terminals.{block_of}
use Rattle.air.proofs.Found.{found_one, found_none}

-- where a chain fits a grant, its word is as long as the setting asks
pub sized : (m : Meaning) (g : Grant) → fits m g ≡ true → (n e : ℕ) → n ≡ g.length → e ≡ output g → m.size n e ≡ e
sized m g fit n e n_is e_is = let k = eqb-true (word_size m g) (output g) fit in cc

module _ {m : Meaning} (law : Lawful m) (n : ℕ) (s : Setting) (size : m.size n s.output ≡ s.output) (range : ranged s ≡ true)
    (work side : List ℕ) (roomy : short work side ≡ false) (work' side' : List ℕ) (r : Result ℕ StageFault) where
  opened : Open m n s work side
  opened =
      let some : 0 < s.output = ltb-true 0 s.output (and_parts (ltb 0 s.output) (leb s.output 7680 && ltb s.seed (2 ^ 31)) range).0 in
      record { roomy = roomy; in_range = range; some = omega arith }

  -- a block at the start of the work buffer becomes its word
  pub coded : Bits n (take n work) → Forward m n s work side work' side' r
      → (r ≡ Ok s.output) × (take s.output work' ≡ word m n s.output s.seed (take n work))
  coded bits forward =
      let made = forward_accepted opened work' side' r bits.1 forward in
      let w : List ℕ = word m n s.output s.seed (take n work) in
      let long : length w ≡ s.output = (word_bits law n s.output s.seed opened.some (open_seeded opened) (take n work) bits).0 ∙ size in
      (made.answer ∙ ap Ok long, ap (take s.output) made.work_is ∙ take-padded w s.output (length work) long)

  abbrev there : List ℕ
  there = take (m.size n s.output) work

  abbrev the_block : Option (List ℕ)
  the_block = block_of m n s.output s.seed there

  -- a word that is not all bits has no block
  no_bits : binary there ≡ false → the_block ≡ None
  no_bits h =
      found_none m n s there
      (λ b k. both_ways (binary there) h (ap binary (sym k.is) ∙ (word_bits law n s.output s.seed opened.some (open_seeded opened) b k.bits).1))

  -- and a word becomes its block, if there is one
  decoded : (v : Bool) → binary there ≡ v → m.covers n s.output ≡ true → (r : Result ℕ StageFault) → Back m n s work side work' side' r
      → option_map (λ k. take k work') (result_ok r) ≡ the_block
  decoded true h covers (Ok x) back =
      let u = back_undone opened work' side' (Ok x) covers h back in
      let long = u.1.has.bits.0 in
      let x_is : x ≡ n = grind (arith, u.2.answer, long) in
      ap Some (ap (λ (k : ℕ). take k work') x_is ∙ ap (take n) u.2.work_is ∙ take-padded u.0 n (length work) long)
      ∙ sym (found_one m n s there u.0 u.1)
  decoded true h covers (Err f) back = sym (found_none m n s there (back_undone opened work' side' (Err f) covers h back).0)
  decoded false h covers (Ok x) back = let k = (back_refused opened work' side' (Ok x) covers h back).answer in grind arith
  decoded false h covers (Err f) back = sym (no_bits h)

  pub block_decoded : m.covers n s.output ≡ true → Back m n s work side work' side' r
      → option_map (λ k. take k work') (result_ok r) ≡ block_of m n s.output s.seed (take s.output work)
  block_decoded covers back =
      decoded (binary there) refl covers r back ∙ ap (λ (k : ℕ). block_of m n s.output s.seed (take k work)) size
