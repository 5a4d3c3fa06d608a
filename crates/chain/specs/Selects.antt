-- Selection is lawful, and what its calls leave. Assumes nothing.
use Rattle.std.specs.Prelude.{◌≡◌, ℕ, ◌%◌, ◌<◌, ◌≤◌, Bool, cond, ◌&&◌, List, ◌++◌, length, take, drop, None, Ok, Err, ◌≢◌, slice_index, refl}
use Rattle.std.proofs.Common.{sym, ap, subst, ◌∙◌, arith}
use Rattle.std.proofs.Math.Nat.{mod-le}
use Rattle.std.proofs.lemmas.Bool.{and_parts, leb-true}
use Rattle.std.proofs.lemmas.List.{ext_get_or, get_or-take, length-take-le, take-take, length-replicate}
use Rattle.std.proofs.lemmas.Nat.{mod_below}
use Rattle.stage.specs.declared.setting.Setting.{Setting}
use Rattle.stage.specs.declared.fault.StageFault.TheVariants.{NoBlock}
use Rattle.stage.specs.Bits.{binary, Bits, zeros, padded}
use Rattle.stage.specs.Gather.{gathered}
use Rattle.stage.specs.Meaning.{Lawful, word}
use Rattle.stage.specs.Refusals.{first_fault, forward_tests, back_tests}
use Rattle.stage.specs.Calls.{word_length, covering, Forward, Back}
use Rattle.stage.proofs.Lengths.{cond_some, within_parts}
use Rattle.stage.proofs.Binary.{binary-zeros, binary-take}
use Rattle.stage.proofs.Gathering.{gathered_bits, gathered-xor, gathered_apart}
use Rattle.stage.proofs.Padding.{front_cleared}
use Rattle.stage.proofs.Framed.{word_plain, ready, ready_back, ReadyBack, framed_forward, framed_found, framed_lacking}
use Rattle.stage.specs.Ranges.{within}
use Rattle.chain.specs.Selecting.{ring, selecting}
use Rattle.chain.specs.Rings.{length-ring, ring-within, ring-every, ring_self, slice_index_selected, length_selected}

module _ (n e : ℕ) (some : 0 < selecting.size n e) where
  in_both : (0 < n) × (n ≤ 7680) × (0 < e) × (e ≤ 7680)
  in_both =
      let p = and_parts (within n) (within e) (cond_some (within n && within e) e some) in
      let a = within_parts n p.0 in
      let b = within_parts e p.1 in
      (a.0, a.1, b.0, b.1)

  pub size_is : selecting.size n e ≡ e
  size_is = ap (λ t. cond t e 0) (cond_some (within n && within e) e some)

  ring_bits : (b : List ℕ) → Bits n b → Bits (selecting.size n e) (gathered (ring n e) b)
  ring_bits b p =
      let w = subst (λ k. (i : ℕ) → i < length (ring n e) → slice_index (ring n e) i < k) (sym p.0) (ring-within n e in_both.0) in
      subst (λ k. Bits k (gathered (ring n e) b)) (length-ring n e ∙ sym size_is) (gathered_bits (ring n e) b w p.1)

pub selecting_lawful : Lawful selecting
selecting_lawful = record {
  sized = λ n e h. (let p = in_both n e h in (p.0, p.1, p.2, p.3, omega (arith, size_is n e h)));
  images = λ n e b h p. ring_bits n e h b p;
  offsets = λ n e seed h k. (length-replicate e 0 ∙ sym (size_is n e h), binary-zeros e);
  linear = λ n e a b h p q. gathered-xor (ring n e) a b;
  apart = λ n e a b h cov p q same.
      gathered_apart (ring n e) a b (p.0 ∙ sym q.0) (λ i l. ring-every n e (leb-true n e cov) i (omega (arith, p.0))) same;
}

pub selected_word : (n e seed : ℕ) → 0 < selecting.size n e → (b : List ℕ) → Bits n b → word selecting n e seed b ≡ gathered (ring n e) b
selected_word n e seed some b h = word_plain selecting_lawful n e seed some (ap zeros (sym (size_is n e some))) b h

-- the first m bits of a buffer hold all that the ring asks for
pub ring_front : (n m : ℕ) (work : List ℕ) → 0 < n → n ≤ length work → m ≤ length work
    → gathered (ring n m) (take m work) ≡ gathered (ring n m) (take n work)
ring_front n m work pos fits room =
    let a = length_selected n m (take m work) in
    let b = length_selected n m (take n work) in
    ext_get_or 0 (gathered (ring n m) (take m work)) (gathered (ring n m) (take n work)) (omega arith) (λ k h.
    let low : k < m = omega arith in
    let i : k % n < n = mod_below k n pos in
    let j : k % n < m = (let le = mod-le k n in omega arith) in
    slice_index_selected n m (take m work) k low ∙ get_or-take m work (k % n) 0 j
    ∙ sym (slice_index_selected n m (take n work) k low ∙ get_or-take n work (k % n) 0 i))

module _ (n : ℕ) (s : Setting) (work side : List ℕ) (k : ℕ) (k_is : k ≡ word_length selecting n s) where
  front_ring : k ≤ length work → gathered (ring n (length (take k work))) (take k work) ≡ gathered (ring n k) (take k work)
  front_ring room = ap (λ i. gathered (ring n i) (take k work)) (length-take-le k work room)

  pub select_forward : None ≡ first_fault (forward_tests n s k work side) → (part w d : List ℕ)
      → part ≡ gathered (ring n (length (take k work))) (take k work)
      → w ≡ padded (take k (part ++ drop k work)) (length (part ++ drop k work)) → d ≡ zeros (length side)
      → Forward selecting n s work side w d (Ok k)
  select_forward passes part w d part_is w_is d_is =
      let r = ready selecting_lawful n s work side k k_is passes in
      let e_is : k ≡ s.output = r.word_is ∙ size_is n s.output r.opened.some in
      let ringed : part ≡ gathered (ring n k) (take k work) = part_is ∙ front_ring (omega arith) in
      let is : part ≡ word selecting n s.output s.seed (take n work) =
      ringed ∙ ring_front n k work r.some (omega arith) (omega arith)
      ∙ ap (λ i. gathered (ring n i) (take n work)) e_is
      ∙ sym (selected_word n s.output s.seed r.opened.some (take n work) r.bits) in
      let long : length part ≡ k = ap length ringed ∙ length_selected n k (take k work) in
      framed_forward selecting_lawful n s work side k k_is passes w d
      (front_cleared work part w k k refl long (omega arith) w_is ∙ ap (λ x. padded x (length work)) is) d_is

  module _ (c : Bool) (c_is : c ≡ covering selecting n s) (passes : None ≡ first_fault (back_tests s k c work side))
      (w d : List ℕ) (d_is : d ≡ zeros (length side)) where
    here : ReadyBack selecting_lawful n s work side k k_is c c_is
    here = ready_back selecting_lawful n s work side k k_is c c_is passes

    e_here : k ≡ s.output
    e_here = here.word_is ∙ size_is n s.output here.opened.some

    n_k : n ≤ k
    n_k = let le = leb-true n s.output here.covers in let e = e_here in omega arith

    room : k ≤ length work
    room = let a = here.word_fits in let b = here.work_fits in omega arith

    front_bits : Bits n (take n work)
    front_bits = (
      length-take-le n work (let a = n_k in let b = room in omega arith),
      ap binary (sym (take-take n k work n_k)) ∙ binary-take n (take k work) here.bits.1,
    )

    word_of : (b : List ℕ) → Bits n b → word selecting n s.output s.seed b ≡ gathered (ring n k) b
    word_of b h =
        selected_word n s.output s.seed here.opened.some b h ∙ ap (λ i. gathered (ring n i) b) (sym e_here)

    pub select_finds : take k work ≡ gathered (ring n (length (take k work))) (take k work) → w ≡ padded (take n work) (length work)
        → Back selecting n s work side w d (Ok n)
    select_finds round w_is =
        framed_found selecting_lawful n s work side k k_is c c_is passes w d d_is (take n work) front_bits
        (word_of (take n work) front_bits ∙ sym (ring_front n k work here.some (let a = n_k in let b = room in omega arith) room)
        ∙ sym (front_ring room) ∙ sym round)
        w_is

    pub select_lacks : (take k work ≢ gathered (ring n (length (take k work))) (take k work)) → w ≡ padded (take k work) (length work)
        → Back selecting n s work side w d (Err NoBlock)
    select_lacks breaks w_is =
        framed_lacking selecting_lawful n s work side k k_is c c_is passes w d d_is
        (λ b h is. breaks (ring_self n k (take k work) b here.some (sym (word_of b h) ∙ is) ∙ sym (front_ring room)))
        w_is
