-- The tail-biting code is lawful, and what its calls leave. Assumes nothing.
use Rattle.std.specs.Prelude.{◌≡◌, ℕ, ◌*◌, ◌<◌, ◌≤◌, Bool, List, length, take, None, Ok, Err, ◌≢◌}
use Rattle.std.proofs.Common.{sym, ap, subst, ◌∙◌, arith}
use Rattle.std.proofs.lemmas.List.{length-replicate}
use Rattle.std.proofs.lemmas.Bool.Decides.{nat_tests}
use Rattle.stage.specs.declared.setting.Setting.{Setting}
use Rattle.stage.specs.declared.fault.StageFault.{StageFault}
use Rattle.stage.specs.declared.fault.StageFault.TheVariants.{NoBlock}
use Rattle.stage.specs.Bits.{Bits, zeros, padded}
use Rattle.stage.specs.Meaning.{Lawful, word}
use Rattle.stage.specs.Refusals.{first_fault, forward_tests, back_tests}
use Rattle.stage.specs.Calls.{word_length, covering, Forward, Back}
use Rattle.stage.proofs.Binary.{binary-zeros}
use Rattle.stage.proofs.Framed.{word_plain, ready, ready_back, ReadyBack, framed_forward, framed_found, framed_lacking}
use Rattle.tail_biting.specs.Coding.{coded, coding, uncoded}
use Rattle.tail_biting.specs.Codes.{length-coded, binary-coded, coded-xor, coded_apart, uncoded-coded, uncoded_bits}

module _ (n e : ℕ) (some : 0 < coding.size n e) where
  in_both : (7 ≤ n) × (n ≤ 2560) × (0 < e) × (e ≤ 7680)
  in_both = grind (arith, nat_tests)

  pub size_is : coding.size n e ≡ 3 * n
  size_is = grind (arith, nat_tests)

  coded_bits : (b : List ℕ) → Bits n b → Bits (coding.size n e) (coded b)
  coded_bits b p = (omega (arith, length-coded b, p.0, size_is), binary-coded b p.1)

pub coding_lawful : Lawful coding
coding_lawful = record {
  sized = λ n e h. (let p = in_both n e h in let s = size_is n e h in (omega arith, omega arith, p.2, p.3, omega arith));
  images = λ n e b h p. coded_bits n e h b p;
  offsets = λ n e seed h k. (length-replicate (3 * n) 0 ∙ sym (size_is n e h), binary-zeros (3 * n));
  linear = λ n e a b h p q. coded-xor a b (p.0 ∙ sym q.0);
  apart = λ n e a b h cov p q same. coded_apart n a b p.0 q.0 same;
}

pub coded-word : (n e seed : ℕ) → 0 < coding.size n e → (b : List ℕ) → Bits n b → word coding n e seed b ≡ coded b
coded-word n e seed some b h = word_plain coding_lawful n e seed some (ap zeros (sym (size_is n e some))) b h

module _ (n : ℕ) (s : Setting) (work side : List ℕ) (k : ℕ) (k_is : k ≡ word_length coding n s) where
  pub code_forward : None ≡ first_fault (forward_tests n s k work side) → (w d d1 : List ℕ) → length d1 ≡ length side
      → w ≡ padded (coded (take n work)) (length work) → d ≡ zeros (length d1)
      → Forward coding n s work side w d (Ok k)
  code_forward passes w d d1 same w_is d_is =
      let r = ready coding_lawful n s work side k k_is passes in
      framed_forward coding_lawful n s work side k k_is passes w d
      (w_is ∙ ap (λ x. padded x (length work)) (sym (coded-word n s.output s.seed r.opened.some (take n work) r.bits)))
      (d_is ∙ ap zeros same)

  module _ (c : Bool) (c_is : c ≡ covering coding n s) (passes : None ≡ first_fault (back_tests s k c work side))
      (w d d1 : List ℕ) (same : length d1 ≡ length side) (d_is : d ≡ zeros (length d1)) where
    here : ReadyBack coding_lawful n s work side k k_is c c_is
    here = ready_back coding_lawful n s work side k k_is c c_is passes

    long : k ≡ 3 * n
    long = here.word_is ∙ size_is n s.output here.opened.some

    cleared : d ≡ zeros (length side)
    cleared = d_is ∙ ap zeros same

    word_here : take (3 * n) work ≡ take k work
    word_here = ap (λ j. take j work) (sym long)

    word_bits : Bits (3 * n) (take (3 * n) work)
    word_bits = subst (λ j. Bits j (take j work)) long here.bits

    found_bits : Bits n (uncoded n (take (3 * n) work))
    found_bits = uncoded_bits n (take (3 * n) work) word_bits.0 word_bits.1

    word_of : (b : List ℕ) → Bits n b → word coding n s.output s.seed b ≡ coded b
    word_of b h = coded-word n s.output s.seed here.opened.some b h

    pub code_finds : coded (uncoded n (take (3 * n) work)) ≡ take (3 * n) work → w ≡ padded (uncoded n (take (3 * n) work)) (length work)
        → Back coding n s work side w d (Ok n)
    code_finds is w_is =
        framed_found coding_lawful n s work side k k_is c c_is passes w d cleared (uncoded n (take (3 * n) work)) found_bits
        (word_of (uncoded n (take (3 * n) work)) found_bits ∙ is ∙ word_here)
        w_is

    pub code_lacks : (f : StageFault) → f ≡ NoBlock → (coded (uncoded n (take (3 * n) work)) ≢ take (3 * n) work)
        → w ≡ padded (take (3 * n) work) (length work) → Back coding n s work side w d (Err f)
    code_lacks f f_is differs w_is =
        subst (λ g. Back coding n s work side w d (Err g)) (sym f_is)
        (framed_lacking coding_lawful n s work side k k_is c c_is passes w d cleared
        (λ b h is.
        let same_word : coded b ≡ take (3 * n) work = sym (word_of b h) ∙ is ∙ sym word_here in
        differs (ap coded (ap (uncoded n) (sym same_word) ∙ uncoded-coded n b h.0) ∙ same_word))
        (w_is ∙ ap (λ x. padded x (length work)) word_here))
