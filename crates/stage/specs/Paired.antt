-- A pair of lawful stages is lawful, and its word is the second's word of the first's word. Assumes nothing.
use Rattle.std.specs.Prelude.{◌≡◌, ℕ, zero, suc, ◌^◌, ◌<◌, true, cond, List, ◌==◌, refl}
use Rattle.std.proofs.Common.{sym, ap, ◌∙◌, arith}
use Rattle.std.proofs.lemmas.Bool.{and_parts, ne_eqb}
use Rattle.stage.specs.Bits.{Bits, xor}
use Rattle.stage.specs.Meaning.{Meaning, Lawful, word, paired}
use Rattle.stage.specs.Rule.{PairRule}
use Rattle.stage.specs.Xors.{xor_assoc, xor_bits, xor_cancel}

module _ {m : Meaning} (law : Lawful m) (n e seed : ℕ) (some : 0 < m.size n e) (seeded : seed < 2 ^ 31) where
  pub word_bits : (b : List ℕ) → Bits n b → Bits (m.size n e) (word m n e seed b)
  word_bits b h = xor_bits _ _ _ (law.images n e b some h) (law.offsets n e seed some seeded)

  -- where the mark is covering, blocks with one word are one block
  pub word_apart : m.covers n e ≡ true → (a b : List ℕ) → Bits n a → Bits n b → word m n e seed a ≡ word m n e seed b → a ≡ b
  word_apart cov a b p q h =
      let o = law.offsets n e seed some seeded in
      let x = law.images n e a some p in
      let y = law.images n e b some q in
      law.apart n e a b some cov p q
      (xor_cancel (m.image n e a) (m.image n e b) (m.offset n e seed) (omega (arith, x.0, o.0)) (omega (arith, y.0, o.0)) h)

module _ {a b : Meaning} (la : Lawful a) (lb : Lawful b) where
  -- a word of the pair needs one of the first
  pub first_some : (n e : ℕ) → 0 < b.size (a.size n e) e → 0 < a.size n e
  first_some n e h = (lb.sized (a.size n e) e h).0

  pub paired_lawful : Lawful (paired a b)
  paired_lawful = record {
    sized = λ n e h.
        (let s = lb.sized (a.size n e) e h in
        let t = la.sized n e s.0 in
        (t.0, t.1, t.2, t.3, s.4));
    images = λ n e x h p. lb.images (a.size n e) e (a.image n e x) h (la.images n e x (first_some n e h) p);
    offsets = λ n e seed h k.
        xor_bits _ _ _
        (lb.images (a.size n e) e (a.offset n e seed) h (la.offsets n e seed (first_some n e h) k))
        (lb.offsets (a.size n e) e seed h k);
    linear = λ n e x y h p q.
        ap (b.image (a.size n e) e) (la.linear n e x y (first_some n e h) p q)
        ∙ lb.linear (a.size n e) e (a.image n e x) (a.image n e y) h
        (la.images n e x (first_some n e h) p) (la.images n e y (first_some n e h) q);
    apart = λ n e x y h cov p q same.
        (let both = and_parts (a.covers n e) (b.covers (a.size n e) e) cov in
        let s = first_some n e h in
        la.apart n e x y s both.0 p q
        (lb.apart (a.size n e) e (a.image n e x) (a.image n e y) h both.1 (la.images n e x s p) (la.images n e y s q) same));
  }

  pub word-paired : (n e seed : ℕ) (x : List ℕ) → 0 < b.size (a.size n e) e → seed < 2 ^ 31 → Bits n x
      → word (paired a b) n e seed x ≡ word b (a.size n e) e seed (word a n e seed x)
  word-paired n e seed x h k p =
      let s = first_some n e h in
      sym (xor_assoc (b.image (a.size n e) e (a.image n e x)) (b.image (a.size n e) e (a.offset n e seed)) (b.offset (a.size n e) e seed))
      ∙ ap (λ u. xor u (b.offset (a.size n e) e seed))
      (sym (lb.linear (a.size n e) e (a.image n e x) (a.offset n e seed) h (la.images n e x s p) (la.offsets n e seed s k)))

  no_second : (n e k : ℕ) → a.size n e ≡ k → b.size (a.size n e) e ≡ cond (k == 0) 0 (b.size (a.size n e) e)
  no_second n e zero h = go (b.size (a.size n e) e) refl
    where
      go : (j : ℕ) → b.size (a.size n e) e ≡ j → b.size (a.size n e) e ≡ 0
      go zero i = i
      go (suc j) i = let z : ⊥ = omega (arith, h, first_some n e (omega (arith, i))) in absurd z
  no_second n e (suc k) h = sym (ap (λ t. cond t 0 (b.size (a.size n e) e)) (ne_eqb (suc k) 0 (λ z. omega (arith, z))))

  pub paired_rule : PairRule a b (paired a b)
  paired_rule = record {
    lengths = λ n e. no_second n e (a.size n e) refl;
    maps = λ n e x. refl;
    offsets = λ n e seed. refl;
    marks = λ n e. refl;
    lawful = paired_lawful;
    words = word-paired;
  }
