-- The data subframes of a grant, one by one, and how those of two blocks differ. Assumes nothing.
use Rattle.std.proofs.Common.{◌≡◌, ℕ, zero, suc, ◌*◌, ◌^◌, ◌<◌, ◌≤◌, Bool, true, false, eqb, List, [], ◌∷◌, ◌++◌, length, take, drop, is_some, Some, None, Option, sym, refl, ap, ◌∙◌, arith}
use Rattle.std.proofs.lemmas.Bool.{cond_both}
use Rattle.stage.specs.Bits.{Bits, xor}
use Rattle.stage.specs.Meaning.{Meaning, Lawful, word}
use Rattle.stage.specs.Xors.{xor_nil, xor_medial, xor_self, xor-zeros, length_xor_same}
use Rattle.point.specs.Kinds.{Kind, LawfulKind}
use Rattle.grid.specs.Grids.{aired_bits}
use Rattle.calendar.specs.declared.time.Time.{Time}
use Rattle.calendar.specs.declared.grant.Grant.{Grant}
use Rattle.calendar.specs.Grants.{output}
use Rattle.calendar.specs.Rounds.{owed, part_at, seed_at}
use Rattle.calendar.specs.Times.{after, closed, next_open, open_at}
use Rattle.calendar.proofs.Openings.{open_here, next_past, opens_first}
use Rattle.air.specs.declared.fault.EndFault.{EndFault}
use Rattle.air.specs.Refusals.{settled, offer_refusal, subframe_refusal, end_refusal}
use Rattle.air.specs.Cells.{CellState, Sending, written, airs, sent_bits, offered, stepped, part_of}
use Rattle.link.specs.Calls.{Call, offer, subframe, withdraw}
use Rattle.link.specs.Differences.{Aired, data_grid, airing, Alike, BothLast, DifferencesShow}
use Rattle.link.proofs.Passing.{offer_admits}
use Rattle.link.proofs.Mirrored.{Lasts, next, sent_next, lasts_next, sized, seeded}
use Rattle.link.proofs.Homecoming.{carried, sending_new, lasts_new}

-- ---- exclusive-or, part by part

take-xor : (n : ℕ) (a b : List ℕ) → take n (xor a b) ≡ xor (take n a) (take n b)
take-xor zero a b = refl
take-xor (suc n) [] b = refl
take-xor (suc n) (x ∷ a) [] = refl
take-xor (suc n) (x ∷ a) (y ∷ b) = rw (take-xor n a b)

drop-xor : (n : ℕ) (a b : List ℕ) → drop n (xor a b) ≡ xor (drop n a) (drop n b)
drop-xor zero a b = refl
drop-xor (suc n) [] b = refl
drop-xor (suc n) (x ∷ a) [] = sym (xor_nil (drop n a))
drop-xor (suc n) (x ∷ a) (y ∷ b) = drop-xor n a b

part_xor : (p : ℕ) (a b : List ℕ) → part_of p (xor a b) ≡ xor (part_of p a) (part_of p b)
part_xor p a b = rw (drop-xor (320 * p) a b) (take-xor 320 (drop (320 * p) a) (drop (320 * p) b))

-- one offset on both words is none
words_differ : {m : Meaning} (law : Lawful m) (n e seed : ℕ) → 0 < m.size n e → seed < 2 ^ 31 → (a b : List ℕ) → Bits n a → Bits n b
    → xor (word m n e seed a) (word m n e seed b) ≡ m.image n e (xor a b)
words_differ {m} law n e seed some low a b p q =
    let o = m.offset n e seed in
    let x = m.image n e a in
    let y = m.image n e b in
    let os = law.offsets n e seed some low in
    let xs = law.images n e a some p in
    let ys = law.images n e b some q in
    rw (xor_medial x o y o, xor_self o, law.linear n e a b some p q)
    (xor-zeros (xor x y) (length o) (omega (arith, length_xor_same x y (xs.0 ∙ sym ys.0), xs.0, os.0)))

-- ---- one cell's data subframes

module _ {X : Type 0} (K : Kind X) (kind : LawfulKind K) (identity : ℕ) (small : identity ≤ 503) (m : Meaning) (law : Lawful m) where
  abbrev cell : Time → Option Sending → CellState
  cell t p = record { identity = identity; time = t; chain = m; pending = p }

  record Airs (s : Sending) (x : Aired X) : Type 0 where
    pub time_is : x.time ≡ open_at s.going.start s.going.gone
    pub bits_are : aired_bits K identity x.grid ≡ Some (sent_bits identity m s)

  abbrev AirsOn : Sending → List (Aired X) → Type 0
  AirsOn s [] = Unit {0}
  AirsOn s (x ∷ xs) = Airs s x × AirsOn (next s) xs

  abbrev EachGoesOn : List (Call X) → Type 0
  EachGoesOn xs =
      (t : Time) (s : Sending) → Lasts m s → next_open t ≡ open_at s.going.start s.going.gone → AirsOn s (airing K (cell t (Some s)) xs)

  -- nothing more airs once the grant is over
  over : (s : Sending) (t : Time) (xs : List (Call X)) → AirsOn s (airing K (cell t None) xs)
  over s t [] = tt
  over s t (x ∷ xs) = tt

  -- an accepted subframe call
  airs_one : (t : Time) (s : Sending) (xs : List (Call X)) → EachGoesOn xs → Lasts m s
      → next_open t ≡ open_at s.going.start s.going.gone → (shut : Bool) → closed t ≡ shut
      → AirsOn s (data_grid t (written K identity m t shut (Some s)) ++ airing K (cell (after t) (written K identity m t shut (Some s)).pending) xs)
  unfolding open_at
  airs_one t s xs ih lasts n true e = ih (after t) s lasts (next_past t e ∙ n)
  airs_one t s xs ih lasts n false e =
      let here = sym (open_here t e) ∙ n in (
        record { time_is = here; bits_are = carried K kind identity small m law t s lasts },
        rw (sent_next s)
            (cond_both (eqb (owed s.going.grant s.going.gone) 0) None (Some (next s)) (λ p. AirsOn (next s) (airing K (cell (after t) p) xs))
            (λ _. over (next s) (after t) xs)
            (λ more. ih (after t) (next s) (lasts_next m s lasts more) (ap (λ (x : Time). next_open (after x)) here))),
      )

  one_more : (x : Call X) (xs : List (Call X)) → EachGoesOn xs → EachGoesOn (x ∷ xs)
  unfolding end_refusal
  one_more (offer g work side) xs ih t s lasts n = go (offer_refusal m true g work side) refl
    where
      go : (r : Option EndFault) → offer_refusal m true g work side ≡ r
          → AirsOn s (airing K (settled r (cell t (Some s)) (offered (cell t (Some s)) g work)) xs)
      go None e = cc ((offer_admits m true g work side e).0)
      go (Some f) e = ih t s lasts n
  one_more (subframe work side grid) xs ih t s lasts n = go (subframe_refusal work side (length grid))
    where
      go : (r : Option EndFault)
          → AirsOn s (settled r [] (data_grid t (airs K (cell t (Some s)))) ++ airing K (settled r (cell t (Some s)) (stepped K (cell t (Some s)))) xs)
      go None = airs_one t s xs ih lasts n (closed t) refl
      go (Some f) = ih t s lasts n
  one_more withdraw xs ih t s lasts n = over s t xs

  airs_right : (xs : List (Call X)) → EachGoesOn xs
  airs_right [] t s lasts n = tt
  airs_right (x ∷ xs) t s lasts n = one_more x xs (airs_right xs) t s lasts n

  -- ---- two cells side by side

  module _ (g : Grant) (start : Time) where
    abbrev sends : List ℕ → ℕ → Sending
    sends block k = record { going = record { grant = g; start = start; gone = k }; block = block }

    module _ (a b : List ℕ) (lasts_a : Lasts m (sends a 0)) (lasts_b : Lasts m (sends b 0)) where
      alike : (k : ℕ) (x y : Aired X) → Airs (sends a k) x → Airs (sends b k) y → Alike K identity m g start a b k x y
      alike k x y p q = record {
        times = (p.time_is, q.time_is);
        first = p.bits_are;
        second = q.bits_are;
        difference = λ u v e f.
            (let eu : u ≡ sent_bits identity m (sends a k) = cc (p.bits_are) in
            let ev : v ≡ sent_bits identity m (sends b k) = cc (q.bits_are) in
            rw (eu, ev)
            (sym (part_xor (part_at g k) _ _)
            ∙ ap (part_of (part_at g k))
            (words_differ law g.length (output g) (seed_at identity g start k) (sized identity small m law (sends a 0) lasts_a)
            (seeded identity small m law (sends a 0) lasts_a k) a b lasts_a.admitted.bits lasts_b.admitted.bits)));
      }

      both : (k : ℕ) (xs ys : List (Aired X)) → AirsOn (sends a k) xs → AirsOn (sends b k) ys
          → BothLast (Alike K identity m g start a b) k xs ys
      both k [] ys p q = tt
      both k (x ∷ xs) [] p q = tt
      both k (x ∷ xs) (y ∷ ys) p q = (alike k x y p.0 q.0, both (suc k) xs ys p.1 q.1)

module _ {X : Type 0} (K : Kind X) (kind : LawfulKind K) where
  pub differences_show : DifferencesShow K
  differences_show m law e range c d at_c at_d g work side work' side' p q calls calls' =
      let lasts = lasts_new m (is_some c.pending) g work side e.time p range.timed in
      let lasts' = lasts_new m (is_some d.pending) g work' side' e.time q range.timed in
      let begins = sym (opens_first e.time) in
      rw (at_c.identity_is, at_c.time_is, at_c.chain_is, at_d.identity_is, at_d.time_is, at_d.chain_is)
      (both K kind e.identity range.known m law g e.time (take g.length work) (take g.length work') lasts lasts' 0 _ _
      (airs_right K kind e.identity range.known m law calls e.time (sending_new g work e.time) lasts begins)
      (airs_right K kind e.identity range.known m law calls' e.time (sending_new g work' e.time) lasts' begins))
