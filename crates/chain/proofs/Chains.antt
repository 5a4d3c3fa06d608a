-- The built-in chain in plain numbers. Assumes nothing.
use Rattle.std.proofs.Common.{◌≡◌, ℕ, ◌+◌, ◌*◌, ◌/◌, ◌^◌, ◌<◌, ◌≤◌, Bool, true, false, cond, ◌&&◌, ltb, leb, List, ◌++◌, sym, refl, ap, ◌∙◌, subst, ap₂, arith}
use Rattle.std.proofs.lemmas.Bool.{and_parts, ltb-true, leb-true}
use Rattle.std.proofs.lemmas.Bool.Decides.{nat_tests}
use Rattle.stage.specs.Bits.{Bits, xor}
use Rattle.stage.specs.Gather.{gathered}
use Rattle.stage.specs.Meaning.{Meaning, Lawful, word, paired}
use Rattle.stage.specs.Paired.{word_bits, first_some, paired_lawful, word-paired}
use Rattle.gold.specs.Sequence.{sequence}
use Rattle.stage.specs.Ranges.{within}
use Rattle.check_bits.specs.Checking.{checking, check_bits_of}
use Rattle.tail_biting.specs.Coding.{coding, coded}
use Rattle.interleaver.specs.Interleaving.{interleaving, triple}
use Rattle.chain.specs.Selecting.{selecting, ring}
use Rattle.chain.specs.Scrambling.{scrambling}
use Rattle.chain.specs.Chained.{chained, sendable, ChainStands}
use Rattle.check_bits.specs.Checks.{checking_lawful, checked_word}
use Rattle.tail_biting.specs.TailBites.{coding_lawful, coded-word}
use Rattle.interleaver.specs.Interleaves.{interleaving_lawful, interleaved_word}
use Rattle.stage.proofs.Lengths.{cond_some, within_parts}
use Rattle.chain.specs.Selects.{selecting_lawful, selected_word}
use Rattle.chain.specs.Scrambles.{scrambling_lawful}

abbrev sent : Meaning
sent = paired selecting scrambling

abbrev spread : Meaning
spread = paired interleaving sent

abbrev guarded : Meaning
guarded = paired coding spread

-- ---- where there is a word

module _ (n e : ℕ) (low : 0 < n) (high : n ≤ 2536) (e_low : 0 < e) (e_high : e ≤ 7680) where
  check_size : checking.size n e ≡ n + 24
  check_size = grind (arith, nat_tests)

  code_size : coding.size (n + 24) e ≡ 3 * (n + 24)
  code_size = grind (arith, nat_tests)

  interleave_size : interleaving.size (3 * (n + 24)) e ≡ 3 * (n + 24)
  interleave_size = grind (arith, nat_tests)

  select_size : selecting.size (3 * (n + 24)) e ≡ e
  select_size = grind (arith, nat_tests)

  scramble_size : scrambling.size e e ≡ e
  scramble_size = grind (arith, nat_tests)

  sent_size : sent.size (3 * (n + 24)) e ≡ e
  sent_size = ap (λ k. scrambling.size k e) select_size ∙ scramble_size

  spread_size : spread.size (3 * (n + 24)) e ≡ e
  spread_size = ap (λ k. sent.size k e) interleave_size ∙ sent_size

  guarded_size : guarded.size (n + 24) e ≡ e
  guarded_size = ap (λ k. spread.size k e) code_size ∙ spread_size

  in_size : chained.size n e ≡ e
  in_size = ap (λ k. guarded.size k e) check_size ∙ guarded_size

  and_true : (t : Bool) → (t && true) ≡ t
  and_true true = refl
  and_true false = refl

  in_covers : chained.covers n e ≡ leb (3 * (n + 24)) e
  in_covers =
      ap (λ k. leb (interleaving.size (coding.size k e) e) e && true) check_size ∙ ap (λ k. leb (interleaving.size k e) e && true) code_size
      ∙ ap (λ k. leb k e && true) interleave_size ∙ and_true (leb (3 * (n + 24)) e)

-- ---- where there is none: the code has no word at length 0, nor at one that it cannot take

uncodable : (n e : ℕ) → (sendable n && within e) ≡ false → coding.size (checking.size n e) e ≡ 0
uncodable n e h = grind (arith, nat_tests)

sizes : (n e : ℕ) (t : Bool) → (sendable n && within e) ≡ t → chained.size n e ≡ cond t e 0
sizes n e false h = ap (λ k. spread.size k e) (uncodable n e h)
sizes n e true h =
    let p = and_parts (sendable n) (within e) h in
    let q = and_parts (ltb 0 n) (leb n 2536) p.0 in
    let w = within_parts e p.1 in
    in_size n e (ltb-true 0 n q.0) (leb-true n 2536 q.1) w.0 w.1

-- ---- the word

-- what a word length says of n and e
ranges : (n e : ℕ) → 0 < chained.size n e → (0 < n) × (n ≤ 2536) × (0 < e) × (e ≤ 7680)
ranges n e h =
    let t : (sendable n && within e) ≡ true = cond_some (sendable n && within e) e (omega (arith, sizes n e (sendable n && within e) refl)) in
    let p = and_parts (sendable n) (within e) t in
    let q = and_parts (ltb 0 n) (leb n 2536) p.0 in
    let w = within_parts e p.1 in
    (ltb-true 0 n q.0, leb-true n 2536 q.1, w.0, w.1)

sent_lawful : Lawful sent
sent_lawful = paired_lawful selecting_lawful scrambling_lawful

spread_lawful : Lawful spread
spread_lawful = paired_lawful interleaving_lawful sent_lawful

guarded_lawful : Lawful guarded
guarded_lawful = paired_lawful coding_lawful spread_lawful

-- the word of a pair, from the first stage's word length and word and the second's word of that
word_through : {a b : Meaning} → Lawful a → Lawful b → (n k e seed : ℕ) (x y z : List ℕ) → a.size n e ≡ k → 0 < b.size k e → seed < 2 ^ 31 → Bits n x
    → word a n e seed x ≡ y → (Bits k y → word b k e seed y ≡ z) → word (paired a b) n e seed x ≡ z
word_through {a} {b} la lb n k e seed x y z size some seeded h is next =
    let pair_some : 0 < b.size (a.size n e) e = subst (λ i. 0 < b.size i e) (sym size) some in
    let bits : Bits k y = rw (size, is) at (word_bits la n e seed (first_some la lb n e pair_some) seeded x h) in
    word-paired la lb n e seed x pair_some seeded h ∙ ap₂ (λ i w. word b i e seed w) size is ∙ next bits

module _ (n e seed : ℕ) (low : 0 < n) (high : n ≤ 2536) (e_low : 0 < e) (e_high : e ≤ 7680) (seeded : seed < 2 ^ 31) where
  -- an interleaved block, taken in a ring and scrambled
  sent_of : List ℕ → List ℕ
  sent_of x = xor (gathered (ring (3 * (n + 24)) e) x) (sequence seed e)

  sent_word : (x : List ℕ) → Bits (3 * (n + 24)) x → word sent (3 * (n + 24)) e seed x ≡ sent_of x
  unfolding sent_of
  sent_word x h =
      let s = select_size n e low high e_low e_high in
      let z = scramble_size n e low high e_low e_high in
      word_through selecting_lawful scrambling_lawful (3 * (n + 24)) e e seed x (gathered (ring (3 * (n + 24)) e) x) (sent_of x)
      s (omega arith) seeded h (selected_word (3 * (n + 24)) e seed (omega arith) x h) (λ _. refl)

  spread_word : (x : List ℕ) → Bits (3 * (n + 24)) x → word spread (3 * (n + 24)) e seed x ≡ sent_of (gathered (triple (n + 24)) x)
  spread_word x h =
      let s = interleave_size n e low high e_low e_high in
      let z = sent_size n e low high e_low e_high in
      let third : triple (3 * (n + 24) / 3) ≡ triple (n + 24) = ap triple (omega arith) in
      let y = gathered (triple (n + 24)) x in
      word_through interleaving_lawful sent_lawful (3 * (n + 24)) (3 * (n + 24)) e seed x y (sent_of y)
      s (omega (arith, z)) seeded h
      (interleaved_word (3 * (n + 24)) e seed (omega arith) x h ∙ ap (λ ps. gathered ps x) third) (sent_word y)

  guarded_word : (x : List ℕ) → Bits (n + 24) x → word guarded (n + 24) e seed x ≡ sent_of (gathered (triple (n + 24)) (coded x))
  guarded_word x h =
      let s = code_size n e low high e_low e_high in
      let z = spread_size n e low high e_low e_high in
      word_through coding_lawful spread_lawful (n + 24) (3 * (n + 24)) e seed x (coded x) (sent_of (gathered (triple (n + 24)) (coded x)))
      s (omega (arith, z)) seeded h (coded-word (n + 24) e seed (omega arith) x h) (spread_word (coded x))

  chained-word : (b : List ℕ) → Bits n b
      → word chained n e seed b
      ≡ xor (gathered (ring (3 * (n + 24)) e) (gathered (triple (n + 24)) (coded (b ++ check_bits_of b)))) (sequence seed e)
  unfolding sent_of
  chained-word b h =
      let s = check_size n e low high e_low e_high in
      let z = guarded_size n e low high e_low e_high in
      let x = b ++ check_bits_of b in
      word_through checking_lawful guarded_lawful n (n + 24) e seed b x (sent_of (gathered (triple (n + 24)) (coded x)))
      s (omega (arith, z)) seeded h (checked_word n e seed (omega arith) b h) (guarded_word x)

pub chain_stands : ChainStands
unfolding ChainStands
chain_stands = record {
  lengths = λ n e. sizes n e (sendable n && within e) refl;
  marks = λ n e h. (let r = ranges n e h in in_covers n e r.0 r.1 r.2 r.3);
  words = λ n e seed b h seeded bits. (let r = ranges n e h in chained-word n e seed r.0 r.1 r.2 r.3 seeded b bits);
}
