-- The frame of a stage's own calls: what `forward` and `back` owe once the tests have let them pass. Assumes nothing.
use Rattle.std.proofs.Common.{◌≡◌, ℕ, ◌^◌, ◌<◌, ◌≤◌, Bool, true, List, length, take, None, Ok, Err, sym, refl, ap, ◌∙◌, arith}
use Rattle.std.proofs.lemmas.List.{length-take-le}
use Rattle.stage.specs.declared.setting.Setting.{Setting}
use Rattle.stage.specs.declared.fault.StageFault.TheVariants.{NoBlock}
use Rattle.stage.specs.Bits.{binary, Bits, xor, zeros, padded}
use Rattle.stage.specs.Meaning.{Meaning, Lawful, word}
use Rattle.stage.specs.Refusals.{first_fault, forward_tests, back_tests}
use Rattle.stage.specs.Calls.{word_length, covering, HasWord, TheBlock, Forward, Back}
use Rattle.stage.specs.Xors.{xor-zeros}
use Rattle.stage.proofs.Opened.{Open, forward_admitted, back_admitted, open_length, open_seeded, open_work, open_side, open_covering}
use Rattle.stage.proofs.Past.{accept_forward, undo_back}
use Rattle.stage.specs.Paired.{word_bits, word_apart}

-- where the mark is covering, a block that has the word is the one
pub one_block : {m : Meaning} (law : Lawful m) (n : ℕ) (s : Setting) → 0 < m.size n s.output → s.seed < 2 ^ 31
    → m.covers n s.output ≡ true → (w b : List ℕ) → HasWord m n s w b → TheBlock m n s w b
one_block law n s some seeded cov w b h = record {
  has = h;
  only = λ x hx. word_apart law n s.output s.seed some seeded cov x b hx.bits h.bits (hx.is ∙ sym h.is);
}

-- the word of a stage without an offset is the image
pub word_plain : {m : Meaning} (law : Lawful m) (n e seed : ℕ) → 0 < m.size n e → m.offset n e seed ≡ zeros (m.size n e)
    → (b : List ℕ) → Bits n b → word m n e seed b ≡ m.image n e b
word_plain {m} law n e seed some none b h =
    ap (xor (m.image n e b)) none ∙ xor-zeros (m.image n e b) (m.size n e) (omega (arith, (law.images n e b some h).0))

module _ {m : Meaning} (law : Lawful m) (n : ℕ) (s : Setting) (work side : List ℕ) (k : ℕ) (k_is : k ≡ word_length m n s) where
  module _ (o : Open m n s work side) where
    size_is : k ≡ m.size n s.output
    size_is = k_is ∙ open_length o

    block_room : n ≤ 7680
    block_room = (law.sized n s.output o.some).1

    word_room : k ≤ 7680
    word_room = let z = size_is in let r = law.sized n s.output o.some in omega arith

  -- what stands once the tests of `forward` have passed
  pub record Ready : Type 0 where
    pub opened : Open m n s work side
    pub bits : Bits n (take n work)
    pub some : 0 < n
    pub block-fits : n ≤ 7680
    pub word_is : k ≡ m.size n s.output
    pub word_fits : k ≤ 7680
    pub work_fits : 7680 ≤ length work
    pub side_fits : 7680 ≤ length side

  pub ready : None ≡ first_fault (forward_tests n s k work side) → Ready
  ready passes =
      let p = forward_admitted m n s work side k k_is passes in
      let room = open_work p.0 in
      let fits = block_room p.0 in
      record {
        opened = p.0;
        bits = (length-take-le n work (omega arith), p.1);
        some = (law.sized n s.output p.0.some).0;
        block-fits = fits;
        word_is = size_is p.0;
        word_fits = word_room p.0;
        work_fits = room;
        side_fits = open_side p.0;
      }

  pub framed_forward : None ≡ first_fault (forward_tests n s k work side) → (w d : List ℕ)
      → w ≡ padded (word m n s.output s.seed (take n work)) (length work) → d ≡ zeros (length side) → Forward m n s work side w d (Ok k)
  framed_forward passes w d w_is d_is =
      let r = ready passes in
      let long = (word_bits law n s.output s.seed r.opened.some (open_seeded r.opened) (take n work) r.bits).0 in
      accept_forward r.opened w d (Ok k) r.bits.1 (record { answer = ap Ok (r.word_is ∙ sym long); work_is = w_is; side_is = d_is })

  module _ (c : Bool) (c_is : c ≡ covering m n s) where
    -- what stands once the tests of `back` have passed
    pub record ReadyBack : Type 0 where
      pub opened : Open m n s work side
      pub covers : m.covers n s.output ≡ true
      pub bits : Bits k (take k work)
      pub some : 0 < n
      pub block-fits : n ≤ 7680
      pub word_is : k ≡ m.size n s.output
      pub word_fits : k ≤ 7680
      pub work_fits : 7680 ≤ length work
      pub side_fits : 7680 ≤ length side

    pub ready_back : None ≡ first_fault (back_tests s k c work side) → ReadyBack
    ready_back passes =
        let p = back_admitted m n s work side k k_is c passes in
        let room = open_work p.0 in
        let fits = word_room p.0 in
        record {
          opened = p.0;
          covers = sym (open_covering p.0) ∙ sym c_is ∙ p.1;
          bits = (length-take-le k work (omega arith), p.2);
          some = (law.sized n s.output p.0.some).0;
          block-fits = block_room p.0;
          word_is = size_is p.0;
          word_fits = fits;
          work_fits = room;
          side_fits = open_side p.0;
        }

    module _ (passes : None ≡ first_fault (back_tests s k c work side)) (w d : List ℕ) (d_is : d ≡ zeros (length side)) where
      word_here : take k work ≡ take (m.size n s.output) work
      word_here = ap (λ j. take j work) (ready_back passes).word_is

      pub framed_found : (b : List ℕ) → Bits n b → word m n s.output s.seed b ≡ take k work → w ≡ padded b (length work)
          → Back m n s work side w d (Ok n)
      framed_found b bits is w_is =
          let r = ready_back passes in
          undo_back r.opened w d (Ok n) r.covers (ap binary (sym word_here) ∙ r.bits.1) (
            b,
            one_block law n s r.opened.some (open_seeded r.opened) r.covers (take (m.size n s.output) work) b
                (record { bits = bits; is = is ∙ word_here }),
            record { answer = ap Ok (sym bits.0); work_is = w_is; side_is = d_is },
          )

      pub framed_lacking : ((b : List ℕ) → Bits n b → word m n s.output s.seed b ≡ take k work → ⊥)
          → w ≡ padded (take k work) (length work) → Back m n s work side w d (Err NoBlock)
      framed_lacking none w_is =
          let r = ready_back passes in
          undo_back r.opened w d (Err NoBlock) r.covers (ap binary (sym word_here) ∙ r.bits.1) (
            (λ b h. none b h.bits (h.is ∙ sym word_here)),
            record { answer = refl; work_is = w_is ∙ ap (λ x. padded x (length work)) word_here; side_is = d_is },
          )
