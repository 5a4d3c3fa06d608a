-- Check bits are lawful, and what their calls leave. Assumes nothing.
use Rattle.std.specs.Prelude.{◌≡◌, ℕ, ◌+◌, ◌-◌, ◌<◌, ◌≤◌, Bool, true, cond, ◌&&◌, List, ◌++◌, length, take, drop, None, Ok, Err, ◌≢◌, nat_le, nat_lt, refl}
use Rattle.std.proofs.Common.{sym, ap, ap₂, ◌∙◌, arith, length-append}
use borrow.Rule.Slice.PartMut.{put_mid}
use Rattle.std.proofs.lemmas.Bool.{and_parts, ltb-true, leb-true}
use Rattle.std.proofs.lemmas.List.{take_at, take-take, drop_at, drop-drop, drop-take, take-append-drop, append_assoc, length-take-le, length-replicate}
use Rattle.stage.specs.declared.setting.Setting.{Setting}
use Rattle.stage.specs.declared.fault.StageFault.TheVariants.{NoBlock}
use Rattle.stage.specs.Bits.{binary, Bits, xor, zeros, padded}
use Rattle.stage.specs.Meaning.{Lawful, word}
use Rattle.stage.specs.Refusals.{first_fault, forward_tests, back_tests}
use Rattle.stage.specs.Calls.{word_length, covering, Forward, Back}
use Rattle.stage.specs.Xors.{xor-append}
use Rattle.stage.proofs.Binary.{binary-zeros, binary-append, binary-take}
use Rattle.stage.proofs.Padding.{front_cleared}
use Rattle.stage.proofs.Framed.{word_plain, ready, ready_back, ReadyBack, framed_forward, framed_found, framed_lacking}
use Rattle.stage.specs.Ranges.{within}
use Rattle.check_bits.specs.Checking.{check_bits_of, checking}
use Rattle.stage.proofs.Lengths.{cond_some, within_parts}
use Rattle.check_bits.specs.Division.{length_check_bits, binary_check_bits, check_bits_xor}

module _ (n e : ℕ) (some : 0 < checking.size n e) where
  tests : (nat_lt 0 n && (nat_le n 7656 && within e)) ≡ true
  tests = cond_some (nat_lt 0 n && (nat_le n 7656 && within e)) (n + 24) some

  in_both : (0 < n) × (n ≤ 7656) × (0 < e) × (e ≤ 7680)
  in_both =
      let p = and_parts (nat_lt 0 n) (nat_le n 7656 && within e) tests in
      let q = and_parts (nat_le n 7656) (within e) p.1 in
      let w = within_parts e q.1 in
      (ltb-true 0 n p.0, leb-true n 7656 q.0, w.0, w.1)

  pub size_is : checking.size n e ≡ n + 24
  size_is = ap (λ t. cond t (n + 24) 0) tests

pub checking_lawful : Lawful checking
checking_lawful = record {
  sized = λ n e h. (let p = in_both n e h in (p.0, omega arith, p.2, p.3, omega (arith, size_is n e h)));
  images = λ n e b h p. (
    length-append b (check_bits_of b) ∙ omega (arith, length_check_bits b, size_is n e h, p.0),
    binary-append b (check_bits_of b) p.1 (binary_check_bits b p.1),
  );
  offsets = λ n e seed h k. (length-replicate (n + 24) 0 ∙ sym (size_is n e h), binary-zeros (n + 24));
  linear = λ n e a b h p q.
      ap (λ (r : List ℕ). xor a b ++ r) (check_bits_xor a b (p.0 ∙ sym q.0) p.1 q.1)
      ∙ sym (xor-append a (check_bits_of a) b (check_bits_of b) (p.0 ∙ sym q.0));
  apart = λ n e a b h cov p q same.
      sym (take_at a (check_bits_of a) n p.0) ∙ ap (take n) same ∙ take_at b (check_bits_of b) n q.0;
}

pub checked_word : (n e seed : ℕ) → 0 < checking.size n e → (b : List ℕ) → Bits n b → word checking n e seed b ≡ b ++ check_bits_of b
checked_word n e seed some b h = word_plain checking_lawful n e seed some (ap zeros (sym (size_is n e some))) b h

-- a part written behind the first n, as the code has it
put_behind : (work part : List ℕ) (n k : ℕ) → n ≤ k → put_mid n (k - n) work part ≡ (take n work ++ part) ++ drop k work
put_behind work part n k low =
    ap (λ (r : List ℕ). take n work ++ (part ++ r)) (drop-drop (k - n) n work ∙ ap (λ (j : ℕ). drop j work) (omega arith))
    ∙ sym (append_assoc (take n work) part (drop k work))

-- the front of a buffer in two parts
two_parts : (work : List ℕ) (n k : ℕ) → n ≤ k → take k work ≡ take n work ++ take (k - n) (drop n work)
two_parts work n k low =
    let at : n + (k - n) ≡ k = omega arith in
    sym (take-append-drop n (take k work))
    ∙ ap₂ (λ (x y : List ℕ). x ++ y) (take-take n k work low)
    (ap (λ (j : ℕ). drop n (take j work)) (sym at) ∙ drop-take n (k - n) work)

module _ (n : ℕ) (s : Setting) (work side : List ℕ) (k : ℕ) (k_is : k ≡ word_length checking n s) (check : List ℕ)
    (checked : check ≡ check_bits_of (take n work)) where
  pub check_forward : None ≡ first_fault (forward_tests n s k work side) → (part w d : List ℕ) → part ≡ check
      → w ≡ padded (take k (put_mid n (k - n) work part)) (length (put_mid n (k - n) work part)) → d ≡ zeros (length side)
      → Forward checking n s work side w d (Ok k)
  check_forward passes part w d part_is w_is d_is =
      let r = ready checking_lawful n s work side k k_is passes in
      let k_n : k ≡ n + 24 = r.word_is ∙ size_is n s.output r.opened.some in
      let is : part ≡ check_bits_of (take n work) = part_is ∙ checked in
      let long : length (take n work ++ part) ≡ k =
      length-append (take n work) part ∙ omega (arith, r.bits.0, ap length is, length_check_bits (take n work)) in
      framed_forward checking_lawful n s work side k k_is passes w d
      (front_cleared work (take n work ++ part) w k k refl long (omega arith)
      (w_is ∙ ap (λ (x : List ℕ). padded (take k x) (length x)) (put_behind work part n k (omega arith)))
      ∙ ap (λ (x : List ℕ). padded x (length work))
      (ap (λ (x : List ℕ). take n work ++ x) is ∙ sym (checked_word n s.output s.seed r.opened.some (take n work) r.bits)))
      d_is

  module _ (c : Bool) (c_is : c ≡ covering checking n s) (passes : None ≡ first_fault (back_tests s k c work side))
      (w d : List ℕ) (d_is : d ≡ zeros (length side)) where
    here : ReadyBack checking_lawful n s work side k k_is c c_is
    here = ready_back checking_lawful n s work side k k_is c c_is passes

    n_k : n ≤ k
    n_k = let z : k ≡ n + 24 = here.word_is ∙ size_is n s.output here.opened.some in omega arith

    front_bits : Bits n (take n work)
    front_bits = (
      length-take-le n work (let a = here.work_fits in let b = here.word_fits in let z = n_k in omega arith),
      ap binary (sym (take-take n k work n_k)) ∙ binary-take n (take k work) here.bits.1,
    )

    word_of : (b : List ℕ) → Bits n b → word checking n s.output s.seed b ≡ b ++ check_bits_of b
    word_of b h = checked_word n s.output s.seed here.opened.some b h

    pub check_finds : take (k - n) (drop n work) ≡ check → w ≡ padded (take n work) (length work) → Back checking n s work side w d (Ok n)
    check_finds agree w_is =
        framed_found checking_lawful n s work side k k_is c c_is passes w d d_is (take n work) front_bits
        (word_of (take n work) front_bits ∙ ap (λ (x : List ℕ). take n work ++ x) (sym (agree ∙ checked)) ∙ sym (two_parts work n k n_k))
        w_is

    pub check_lacks : (take (k - n) (drop n work) ≢ check) → w ≡ padded (take k work) (length work) → Back checking n s work side w d (Err NoBlock)
    check_lacks differ w_is =
        framed_lacking checking_lawful n s work side k k_is c c_is passes w d d_is
        (λ b h is.
        let e : b ++ check_bits_of b ≡ take n work ++ take (k - n) (drop n work) = sym (word_of b h) ∙ is ∙ two_parts work n k n_k in
        let rest = take (k - n) (drop n work) in
        let front : b ≡ take n work = sym (take_at b (check_bits_of b) n h.0) ∙ ap (take n) e ∙ take_at (take n work) rest n front_bits.0 in
        let behind : check_bits_of b ≡ rest = sym (drop_at b (check_bits_of b) n h.0) ∙ ap (drop n) e ∙ drop_at (take n work) rest n front_bits.0 in
        differ (sym behind ∙ ap check_bits_of front ∙ sym checked))
        w_is

-- the block at the front of a word of bits
pub front_binary : (n : ℕ) (s : Setting) (work side : List ℕ) (k : ℕ) → k ≡ word_length checking n s → (c : Bool) → c ≡ covering checking n s
    → None ≡ first_fault (back_tests s k c work side) → binary (take n work) ≡ true
front_binary n s work side k k_is c c_is passes =
    let r = ready_back checking_lawful n s work side k k_is c c_is passes in
    let k_n : k ≡ n + 24 = r.word_is ∙ size_is n s.output r.opened.some in
    ap binary (sym (take-take n k work (omega arith))) ∙ binary-take n (take k work) r.bits.1
