-- A walk over the bits of a matrix in the order in which they are read, and what is copied on the way. Assumes nothing.
use Rattle.std.proofs.Common.{◌≡◌, ℕ, ◌+◌, ◌-◌, ◌*◌, ◌%◌, ◌^◌, ◌<◌, ◌≤◌, Bool, true, false, cond, List, [], ◌∷◌, ◌++◌, map, length, take, drop, filter, get_or, Some, None, Option, MatchOption, sym, ap, ◌∙◌, subst, inl, inr, add-mul, zero-mul, mul-le-mul_right, arith}
use Rattle.std.proofs.lemmas.Bool.{cases_lt, le-leb, lt-leb}
use Rattle.std.proofs.lemmas.List.{drop_more, drop_all, at_drop_all, length-drop, length-take-le, take_at, get_or-take, ext_get_or}
use Rattle.std.proofs.lemmas.Nat.{mul-add-lt}
use Rattle.stage.specs.Gather.{gathered}
use Rattle.stage.proofs.Gathering.{length-gathered, slice_index-gathered}
use Rattle.interleaver.specs.Interleaving.{order, rows, unused, used, cell, reading, places, left, row_of, first_in, bit_in, triple}
use Rattle.interleaver.specs.Cells.{order_below, length-reading, slice_index-reading, length-places, places-within, places_once}
use Rattle.interleaver.specs.Triples.{length-triple, slice_index-triple, split}
use Rattle.interleaver.proofs.Copies.{moved, Copied, copied_more}

one_more : (f : ℕ → ℕ) (b : Bool) (x : ℕ) (ks ys zs : List ℕ) (o : Option ℕ) → ys ≡ map f (cond b (x ∷ ks) ks) → map f ks ≡ zs
    → o ≡ cond b (Some (f x)) None → MatchOption o (ys ≡ zs) (λ p. ys ≡ p ∷ zs)
one_more f true x ks ys zs o y z e = rw e (y ∙ ap (λ v. f x ∷ v) z)
one_more f false x ks ys zs o y z e = rw e (y ∙ z)

module _ (d : ℕ) where
  abbrev bits : List ℕ → List ℕ
  bits qs = map (λ q. q - unused d) (filter (used d) qs)

  pub left_start : left d 0 0 ≡ places d
  unfolding left places
  left_start =
      let t : 0 * rows d + 0 ≡ 0 = omega (arith, zero-mul (rows d)) in
      ap (λ t. bits (drop t (reading d))) t

  pub left_more : (c r : ℕ) (o : Option ℕ) → c < 32 → r < rows d → o ≡ bit_in d (cell (get_or order c 0) r)
      → MatchOption o (left d c r ≡ left d c (r + 1)) (λ p. left d c r ≡ p ∷ left d c (r + 1))
  unfolding left
  left_more c r o hc hr =
      let t = c * rows d + r in
      let q = cell (get_or order c 0) r in
      let inside : t < length (reading d) = omega (arith, length-reading d, mul-add-lt c (rows d) r 32 hc hr) in
      let next : t + 1 ≡ c * rows d + (r + 1) = omega arith in
      one_more (λ q. q - unused d) (used d q) q (filter (used d) (drop (t + 1) (reading d))) (left d c r) (left d c (r + 1)) o
      (ap bits (drop_more (reading d) t 0 inside ∙ ap (λ q. q ∷ drop (t + 1) (reading d)) (slice_index-reading d c r hc hr)))
      (ap (λ t. bits (drop t (reading d))) next)

  pub left_turn : (c r : ℕ) → r ≡ rows d → left d c r ≡ left d (c + 1) 0
  unfolding left
  left_turn c r e =
      let t : c * rows d + r ≡ (c + 1) * rows d + 0 = omega (arith, add-mul c 1 (rows d)) in
      ap (λ t. bits (drop t (reading d))) t

  pub left_end : (c r : ℕ) → 32 ≤ c → left d c r ≡ []
  unfolding left
  left_end c r h = at_drop_all bits (reading d) (c * rows d + r) (omega (arith, length-reading d, mul-le-mul_right (rows d) h))

  pub first_stands : (c : ℕ) → c < 32
      → ((first_in d (get_or order c 0) + unused d) % 32 ≡ get_or order c 0) × (row_of d (first_in d (get_or order c 0)) ≤ rows d)
  first_stands c h = let low = order_below c h in (omega arith, omega arith)

  -- a column is read from its first bit on
  pub left_first : (c : ℕ) → c < 32 → left d c 0 ≡ left d c (row_of d (first_in d (get_or order c 0)))
  left_first c h =
      let x = get_or order c 0 in
      let low = order_below c h in
      elim (cases_lt x (unused d)) [
        | inl l ↦ left_more c 0 None h (omega arith)
            (ap (λ b. cond b (Some (cell x 0 - unused d)) None) (sym (lt-leb (unused d) (cell x 0) (omega arith))))
            ∙ ap (left d c) (omega arith)
        | inr l ↦ ap (left d c) (omega arith)
      ]

  -- one bit of a column is read
  pub left_bit : (c p : ℕ) → c < 32 → p < d → (p + unused d) % 32 ≡ get_or order c 0
      → left d c (row_of d p) ≡ p ∷ left d c (row_of d (p + 32))
  left_bit c p h low at =
      let q = cell (get_or order c 0) (row_of d p) in
      let is : Some p ≡ bit_in d q =
      ap Some (omega arith) ∙ ap (λ b. cond b (Some (q - unused d)) None) (sym (le-leb (unused d) q (omega arith))) in
      left_more c (row_of d p) (Some p) h (omega arith) is ∙ ap (λ r. p ∷ left d c r) (omega arith)

  -- a column is behind, and the next begins
  pub left_next : (c p : ℕ) → c + 1 < 32 → d ≤ p → row_of d p ≤ rows d
      → left d c (row_of d p) ≡ left d (c + 1) (row_of d (first_in d (get_or order (c + 1) 0)))
  left_next c p h past inside = left_turn c (row_of d p) (omega arith) ∙ left_first (c + 1) h

  pub left_none : (c p : ℕ) → 31 ≤ c → d ≤ p → row_of d p ≤ rows d → left d c (row_of d p) ≡ []
  left_none c p h past inside = left_turn c (row_of d p) (omega arith) ∙ left_end (c + 1) 0 (omega arith)

-- the bit that is read at place j
abbrev pub place : ℕ → ℕ → ℕ
place d j = get_or (places d) j 0

head_of : (xs : List ℕ) (k x : ℕ) (ys : List ℕ) → drop k xs ≡ x ∷ ys → (k < length xs) × (get_or xs k 0 ≡ x) × (drop (k + 1) xs ≡ ys)
head_of xs k x ys e =
    elim (cases_lt k (length xs)) [
      | inl h ↦ let m = drop_more xs k 0 h in (h, cc, cc)
      | inr h ↦ let m = drop_all k xs h in cc
    ]

-- what the walk has copied when k bits are behind it
pub record Walked (d : ℕ) (f g : ℕ → ℕ) (xs ys rest : List ℕ) (k : ℕ) : Type 0 where
  pub left_is : rest ≡ drop k (places d)
  pub done : Copied d f g xs ys k

abbrev pub Read : ℕ → List ℕ → List ℕ → List ℕ → ℕ → Type 0
Read d xs ys rest k = Walked d (λ j. j) (place d) xs ys rest k

abbrev pub Written : ℕ → List ℕ → List ℕ → List ℕ → ℕ → Type 0
Written d xs ys rest k = Walked d (place d) (λ j. j) xs ys rest k

pub walk_long : (d : ℕ) (rest : List ℕ) → rest ≡ left d 0 0 → length rest ≡ d
walk_long d rest e = ap length (e ∙ left_start d) ∙ length-places d

pub walk_starts : (d : ℕ) (f g : ℕ → ℕ) (xs ys rest : List ℕ) → rest ≡ left d 0 0 → Walked d f g xs ys rest 0
walk_starts d f g xs ys rest e = record { left_is = e ∙ left_start d; done = λ s j hs h. absurd (omega arith) }

-- one bit further: the code's count goes from i to m
module _ (d : ℕ) (xs ys rest more : List ℕ) (i k p m : ℕ) (step : (rest ≡ p ∷ more) × (k ≡ i) × (m ≡ i + 1) × (k + 1 < 2 ^ 64)) where
  module _ (f g : ℕ → ℕ) (w : Walked d f g xs ys rest i) where
    here : (k < d) × (place d k ≡ p) × (drop (k + 1) (places d) ≡ more)
    here =
        let h = head_of (places d) k p more (ap (λ i. drop i (places d)) step.1 ∙ sym w.left_is ∙ step.0) in
        (omega (arith, h.0, length-places d), h.1, h.2)

    pub walk_below : (k < d) × (p < d)
    walk_below = (here.0, subst (λ q. q < d) here.1 (places-within d k here.0))

    walk_more : ((j : ℕ) → j < d → f j < d) → ((i j : ℕ) → i < d → j < d → f i ≡ f j → i ≡ j) → 3 * d ≤ length ys
        → Walked d f g xs (moved d xs (g k) ys (f k)) more m
    walk_more below once room =
        let next : m ≡ k + 1 = omega (arith, step.1, step.2) in
        subst (λ m. Walked d f g xs (moved d xs (g k) ys (f k)) more m) (sym next) record {
          left_is = sym here.2;
          done = copied_more d f g xs ys k below once room here.0 (subst (λ k. Copied d f g xs ys k) (sym step.1) w.done);
        }

  pub read_more : 3 * d ≤ length ys → Read d xs ys rest i → Read d xs (moved d xs p ys k) more m
  read_more room w =
      subst (λ q. Read d xs (moved d xs q ys k) more m) (here (λ j. j) (place d) w).1
      (walk_more (λ j. j) (place d) w (λ j l. l) (λ i j a b e. e) room)

  pub write_more : 3 * d ≤ length ys → Written d xs ys rest i → Written d xs (moved d xs k ys p) more m
  write_more room w =
      subst (λ q. Written d xs (moved d xs k ys q) more m) (here (place d) (λ j. j) w).1
      (walk_more (place d) (λ j. j) w (places-within d) (places_once d) room)

-- all bits are behind it: what was copied aside from zs is copied back in the other order
module _ (d : ℕ) (zs copy side ys rest : List ℕ) (k : ℕ) (copy_is : copy ≡ take (3 * d) zs) (fits : 3 * d ≤ length zs)
    (room : 3 * d ≤ length ys) (none : rest ≡ []) where
  abbrev xs : List ℕ
  xs = copy ++ drop (3 * d) side

  aside : take (3 * d) xs ≡ take (3 * d) zs
  aside = take_at copy (drop (3 * d) side) (3 * d) (ap length copy_is ∙ length-take-le (3 * d) zs fits) ∙ copy_is

  whole : (f g : ℕ → ℕ) → Walked d f g xs ys rest k → Copied d f g xs ys d
  whole f g w s j hs h =
      let e = ap length (sym none ∙ w.left_is) in
      w.done s j hs (omega (arith, length-drop k (places d), length-places d))

  at_front : (us : List ℕ) (s j : ℕ) → s < 3 → j < d → get_or (take (3 * d) us) (s * d + j) 0 ≡ get_or us (s * d + j) 0
  at_front us s j hs h = get_or-take (3 * d) us (s * d + j) 0 (omega (arith, mul-add-lt s d j 3 hs h))

  at_triple : (us : List ℕ) (s j : ℕ) → s < 3 → j < d
      → get_or (gathered (triple d) (take (3 * d) us)) (s * d + j) 0 ≡ get_or us (s * d + place d j) 0
  at_triple us s j hs h =
      slice_index-gathered (triple d) (take (3 * d) us) (s * d + j) (omega (arith, length-triple d, mul-add-lt s d j 3 hs h))
      ∙ ap (λ i. get_or (take (3 * d) us) i 0) (slice_index-triple d s j hs h)
      ∙ at_front us s (place d j) hs (places-within d j h)

  alike : (us vs : List ℕ) → length us ≡ 3 * d → length vs ≡ 3 * d
      → ((s j : ℕ) → s < 3 → j < d → get_or us (s * d + j) 0 ≡ get_or vs (s * d + j) 0) → us ≡ vs
  alike us vs l m e =
      ext_get_or 0 us vs (l ∙ sym m) (λ i h.
      let b = split d i (omega arith) in
      subst (λ i. get_or us i 0 ≡ get_or vs i 0) b.4 (e b.0 b.1 b.2 b.3))

  long : (us : List ℕ) → length (gathered (triple d) us) ≡ 3 * d
  long us = length-gathered (triple d) us ∙ length-triple d

  pub read_all : Read d xs ys rest k → take (3 * d) ys ≡ gathered (triple d) (take (3 * d) zs)
  read_all w =
      alike (take (3 * d) ys) (gathered (triple d) (take (3 * d) xs)) (length-take-le (3 * d) ys room) (long (take (3 * d) xs)) (λ s j hs h.
      at_front ys s j hs h ∙ whole (λ j. j) (place d) w s j hs h ∙ sym (at_triple xs s j hs h))
      ∙ ap (gathered (triple d)) aside

  pub written_all : Written d xs ys rest k → gathered (triple d) (take (3 * d) ys) ≡ take (3 * d) zs
  written_all w =
      alike (gathered (triple d) (take (3 * d) ys)) (take (3 * d) zs) (long (take (3 * d) ys)) (length-take-le (3 * d) zs fits) (λ s j hs h.
      at_triple ys s j hs h ∙ whole (place d) (λ j. j) w s j hs h
      ∙ sym (at_front xs s j hs h) ∙ ap (λ us. get_or us (s * d + j) 0) aside)
