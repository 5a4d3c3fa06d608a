-- The interleaver is lawful, and what its calls leave. Assumes nothing.
use Rattle.std.specs.Prelude.{◌≡◌, ℕ, ◌*◌, ◌/◌, ◌%◌, ◌<◌, ◌≤◌, Bool, true, ◌&&◌, List, length, take, None, Ok, ◌==◌, nat_le}
use Rattle.std.proofs.Common.{sym, ap, ap₂, subst, ◌∙◌, arith}
use Rattle.std.proofs.lemmas.Bool.{and_parts, eqb-true, leb-true, cond-true, cond_both}
use Rattle.std.proofs.lemmas.List.{length-take-le, length-replicate}
use Rattle.stage.specs.declared.setting.Setting.{Setting}
use Rattle.stage.specs.Bits.{binary, Bits, zeros, padded}
use Rattle.stage.specs.Gather.{gathered, Within, Every}
use Rattle.stage.specs.Meaning.{Lawful, word}
use Rattle.stage.specs.Refusals.{first_fault, forward_tests, back_tests}
use Rattle.stage.specs.Calls.{word_length, covering, Forward, Back}
use Rattle.stage.proofs.Binary.{binary-zeros}
use Rattle.stage.proofs.Gathering.{gathered_bits, gathered-xor, gathered_apart, bits_from_gathered}
use Rattle.stage.proofs.Framed.{word_plain, Ready, ready, ReadyBack, ready_back, framed_forward, framed_found}
use Rattle.stage.specs.Ranges.{within}
use Rattle.interleaver.specs.Interleaving.{triple, three_streams, interleaving}
use Rattle.stage.proofs.Lengths.{within_parts}
use Rattle.interleaver.specs.Triples.{length-triple, triple-within, triple-every}

-- what a word length at blocks of n bits says of n and e
record Streamed (n e : ℕ) : Type 0 where
  whole : 3 * (n / 3) ≡ n
  least : 7 ≤ n / 3
  most : n / 3 ≤ 2560
  some : 0 < e
  fits : e ≤ 7680
  same : interleaving.size n e ≡ n

streamed : (n e : ℕ) → 0 < interleaving.size n e → Streamed n e
streamed n e h =
    let t = three_streams n && within e in
    let yes = cond_both t n 0 (λ x. 0 < x → t ≡ true) (λ y _. y) (λ _ z. absurd (omega arith)) h in
    let p = and_parts (three_streams n) (within e) yes in
    let q = and_parts (n % 3 == 0) (nat_le 7 (n / 3) && nat_le (n / 3) 2560) p.0 in
    let r = and_parts (nat_le 7 (n / 3)) (nat_le (n / 3) 2560) q.1 in
    let z = eqb-true (n % 3) 0 q.0 in
    let w = within_parts e p.1 in
    record {
      whole = omega arith;
      least = leb-true 7 (n / 3) r.0;
      most = leb-true (n / 3) 2560 r.1;
      some = w.0;
      fits = w.1;
      same = cond-true t n 0 yes;
    }

module _ (n e : ℕ) (h : 0 < interleaving.size n e) where
  every : (b : List ℕ) → length b ≡ n → Every (length b) (triple (n / 3))
  every b l = subst (λ m. Every m (triple (n / 3))) ((streamed n e h).whole ∙ sym l) (triple-every (n / 3))

  image_bits : (b : List ℕ) → Bits n b → Bits (interleaving.size n e) (gathered (triple (n / 3)) b)
  image_bits b p =
      let t = streamed n e h in
      let w = subst (λ m. Within m (triple (n / 3))) (t.whole ∙ sym p.0) (triple-within (n / 3)) in
      subst (λ m. Bits m (gathered (triple (n / 3)) b)) (length-triple (n / 3) ∙ t.whole ∙ sym t.same)
      (gathered_bits (triple (n / 3)) b w p.1)

pub interleaving_lawful : Lawful interleaving
interleaving_lawful = record {
  sized = λ n e h. (let t = streamed n e h in (omega arith, omega arith, t.some, t.fits, omega arith));
  images = λ n e b h p. image_bits n e h b p;
  offsets = λ n e seed h k. (length-replicate n 0 ∙ sym (streamed n e h).same, binary-zeros n);
  linear = λ n e a b h p q. gathered-xor (triple (n / 3)) a b;
  apart = λ n e a b h cov p q same.
      gathered_apart (triple (n / 3)) a b (p.0 ∙ sym q.0) (every n e h a p.0) same;
}

pub interleaved_word : (n e seed : ℕ) → 0 < interleaving.size n e → (b : List ℕ) → Bits n b
    → word interleaving n e seed b ≡ gathered (triple (n / 3)) b
interleaved_word n e seed h b p = word_plain interleaving_lawful n e seed h (ap zeros (sym (streamed n e h).same)) b p

-- both buffers hold the three streams
abbrev Room : ℕ → List ℕ → List ℕ → Type 0
Room n work side = (n / 3 ≤ 2560) × (3 * (n / 3) ≤ length work) × (3 * (n / 3) ≤ length side)

room : (n e : ℕ) → 0 < interleaving.size n e → (work side : List ℕ) → 7680 ≤ length work → 7680 ≤ length side → Room n work side
room n e h work side a b = let t = streamed n e h in (t.most, omega arith, omega arith)

module _ (n : ℕ) (s : Setting) (work side : List ℕ) (k : ℕ) (k_is : k ≡ word_length interleaving n s) where
  module _ (passes : None ≡ first_fault (forward_tests n s k work side)) where
    there : Ready interleaving_lawful n s work side k k_is
    there = ready interleaving_lawful n s work side k k_is passes

    pub forward_room : Room n work side
    forward_room = room n s.output there.opened.some work side there.work_fits there.side_fits

    pub interleave_forward : (mid w d : List ℕ) → length mid ≡ length work
        → take (3 * (n / 3)) mid ≡ gathered (triple (n / 3)) (take (3 * (n / 3)) work)
        → w ≡ padded (take k mid) (length mid) → d ≡ zeros (length side) → Forward interleaving n s work side w d (Ok k)
    interleave_forward mid w d long front w_is d_is =
        let r = there in
        let t = streamed n s.output r.opened.some in
        let whole : 3 * (n / 3) ≡ k = t.whole ∙ sym (r.word_is ∙ t.same) in
        let is : take k mid ≡ word interleaving n s.output s.seed (take n work) =
        ap (λ i. take i mid) (sym whole) ∙ front ∙ ap (λ i. gathered (triple (n / 3)) (take i work)) t.whole
        ∙ sym (interleaved_word n s.output s.seed r.opened.some (take n work) r.bits) in
        framed_forward interleaving_lawful n s work side k k_is passes w d (w_is ∙ ap₂ padded is long) d_is

  module _ (c : Bool) (c_is : c ≡ covering interleaving n s) (passes : None ≡ first_fault (back_tests s k c work side)) where
    back_there : ReadyBack interleaving_lawful n s work side k k_is c c_is
    back_there = ready_back interleaving_lawful n s work side k k_is c c_is passes

    pub back_room : Room n work side
    back_room = room n s.output back_there.opened.some work side back_there.work_fits back_there.side_fits

    pub interleave_back : (mid w d : List ℕ) → length mid ≡ length work
        → gathered (triple (n / 3)) (take (3 * (n / 3)) mid) ≡ take (3 * (n / 3)) work
        → w ≡ padded (take n mid) (length mid) → d ≡ zeros (length side) → Back interleaving n s work side w d (Ok n)
    interleave_back mid w d long front w_is d_is =
        let r = back_there in
        let some = r.opened.some in
        let t = streamed n s.output some in
        let same : k ≡ n = r.word_is ∙ t.same in
        let is : gathered (triple (n / 3)) (take n mid) ≡ take k work =
        ap (λ i. gathered (triple (n / 3)) (take i mid)) (sym t.whole) ∙ front ∙ ap (λ i. take i work) (t.whole ∙ sym same) in
        let size : length (take n mid) ≡ n = length-take-le n mid (omega arith) in
        let bits : Bits n (take n mid) = (
          size,
          bits_from_gathered (triple (n / 3)) (take n mid) (every n s.output some (take n mid) size) (ap binary is ∙ r.bits.1),
        ) in
        framed_found interleaving_lawful n s work side k k_is c c_is passes w d d_is (take n mid) bits
        (interleaved_word n s.output s.seed some (take n mid) bits ∙ is)
        (w_is ∙ ap (padded (take n mid)) long)
