-- The scrambler is lawful, and what its calls leave. Assumes nothing.
use Rattle.std.specs.Prelude.{◌≡◌, ℕ, ◌+◌, ◌<◌, ◌≤◌, Bool, true, cond, ◌&&◌, List, ◌++◌, length, take, drop, None, Ok, bit_xor, slice_index, slice_set, refl}
use Rattle.std.proofs.Common.{sym, ap, subst, ◌∙◌, arith}
use Rattle.std.proofs.lemmas.Bool.{and_parts}
use Rattle.std.proofs.lemmas.List.{length-take-le}
use Rattle.stage.specs.declared.setting.Setting.{Setting}
use Rattle.stage.specs.Bits.{Bits, xor, zeros, padded}
use Rattle.stage.specs.Meaning.{Lawful}
use Rattle.stage.specs.Refusals.{first_fault, forward_tests, back_tests}
use Rattle.stage.specs.Calls.{word_length, covering, Forward, Back}
use Rattle.stage.specs.Xors.{xor_nil, xor_more, xor_back, xor_bits, length_xor_same}
use Rattle.stage.proofs.Binary.{binary_from}
use Rattle.stage.proofs.Padding.{front_cleared}
use Rattle.stage.proofs.Framed.{ready, ready_back, framed_forward, framed_found}
use Rattle.gold.specs.Sequence.{gold, sequence}
use Rattle.gold.proofs.Sequence.{gold-bit, length-sequence, slice_index-sequence, sequence_more}
use Rattle.stage.specs.Ranges.{within}
use Rattle.chain.specs.Scrambling.{scrambling}
use Rattle.stage.proofs.Lengths.{cond_some, within_parts}

-- a loop that adds the sequence, at its start and one bit on
pub added_none : (xs : List ℕ) (seed : ℕ) → xs ≡ xor xs (sequence seed 0)
unfolding sequence
added_none xs seed = sym (xor_nil xs)

pub added_more : (xs ys : List ℕ) (seed k : ℕ) → k < length xs → ys ≡ xor xs (sequence seed k)
    → slice_set ys k (bit_xor (slice_index ys k) (gold seed k)) ≡ xor xs (sequence seed (k + 1))
added_more xs ys seed k h e =
    let c = sequence seed k in
    let l : length c ≡ k = length-sequence seed k in
    let low : length c < length xs = omega arith in
    simp e (simp l at (xor_more xs c (gold seed k) low)) ∙ ap (xor xs) (sym (sequence_more seed k))

sequence_bits : (seed n : ℕ) → Bits n (sequence seed n)
sequence_bits seed n =
    let l = length-sequence seed n in
    (l, binary_from (sequence seed n) (λ k h. subst (λ x. x < 2) (sym (slice_index-sequence seed n k (omega arith))) (gold-bit seed k)))

module _ (n e : ℕ) (some : 0 < scrambling.size n e) where
  tests : (within n && within e) ≡ true
  tests = cond_some (within n && within e) n some

  in_both : (0 < n) × (n ≤ 7680) × (0 < e) × (e ≤ 7680)
  in_both =
      let p = and_parts (within n) (within e) tests in
      let a = within_parts n p.0 in
      let b = within_parts e p.1 in
      (a.0, a.1, b.0, b.1)

  pub size_is : scrambling.size n e ≡ n
  size_is = ap (λ t. cond t n 0) tests

pub scrambling_lawful : Lawful scrambling
scrambling_lawful = record {
  sized = λ n e h. (let p = in_both n e h in (p.0, p.1, p.2, p.3, omega (arith, size_is n e h)));
  images = λ n e b h p. subst (λ k. Bits k b) (sym (size_is n e h)) p;
  offsets = λ n e seed h k. subst (λ m. Bits m (sequence seed n)) (sym (size_is n e h)) (sequence_bits seed n);
  linear = λ n e a b h p q. refl;
  apart = λ n e a b h cov p q same. same;
}

-- the front with the sequence added, and zeros past it, as the code has it
pub added_front : (work part w : List ℕ) (seed n : ℕ) → n ≤ length work → part ≡ xor (take n work) (sequence seed (length (take n work)))
    → w ≡ padded (take n (part ++ drop n work)) (length (part ++ drop n work)) → w ≡ padded (xor (take n work) (sequence seed n)) (length work)
added_front work part w seed n room part_is w_is =
    let l : length (take n work) ≡ n = length-take-le n work room in
    let is : part ≡ xor (take n work) (sequence seed n) = part_is ∙ ap (λ m. xor (take n work) (sequence seed m)) l in
    let long : length part ≡ n = ap length is ∙ length_xor_same (take n work) (sequence seed n) (l ∙ sym (length-sequence seed n)) ∙ l in
    front_cleared work part w n n refl long room w_is ∙ ap (λ x. padded x (length work)) is

module _ (n : ℕ) (s : Setting) (work side : List ℕ) (k : ℕ) (k_is : k ≡ word_length scrambling n s) (w d : List ℕ)
    (w_is : w ≡ padded (xor (take n work) (sequence s.seed n)) (length work)) (d_is : d ≡ zeros (length side)) where
  pub scramble_forward : None ≡ first_fault (forward_tests n s k work side) → Forward scrambling n s work side w d (Ok n)
  scramble_forward passes =
      let r = ready scrambling_lawful n s work side k k_is passes in
      let k_n : k ≡ n = r.word_is ∙ size_is n s.output r.opened.some in
      subst (λ m. Forward scrambling n s work side w d (Ok m)) k_n
      (framed_forward scrambling_lawful n s work side k k_is passes w d w_is d_is)

  pub scramble_back : (c : Bool) → c ≡ covering scrambling n s → None ≡ first_fault (back_tests s k c work side) → Back scrambling n s work side w d (Ok n)
  scramble_back c c_is passes =
      let r = ready_back scrambling_lawful n s work side k k_is c c_is passes in
      let k_n : k ≡ n = r.word_is ∙ size_is n s.output r.opened.some in
      let front : Bits n (take n work) = subst (λ m. Bits m (take m work)) k_n r.bits in
      let seq = sequence_bits s.seed n in
      framed_found scrambling_lawful n s work side k k_is c c_is passes w d d_is (xor (take n work) (sequence s.seed n))
      (xor_bits n (take n work) (sequence s.seed n) front seq)
      (xor_back (take n work) (sequence s.seed n) (omega (arith, front.0, seq.0)) ∙ ap (λ m. take m work) (sym k_n))
      w_is
