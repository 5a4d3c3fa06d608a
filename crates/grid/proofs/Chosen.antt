-- The walk over the chosen places, one by one: things put on them, and taken from them.
use Rattle.std.proofs.Common.{◌≡◌, ℕ, zero, suc, ◌+◌, ◌-◌, ◌%◌, ◌<◌, ◌≤◌, Bool, true, false, cond, List, [], ◌∷◌, ◌++◌, length, get_or, set, Some, None, Option, sym, refl, ap, ap₂, ◌∙◌, subst, add-one, arith, append_assoc, length-append}
use Rattle.std.specs.List.{find, filter_map, cons_option, slice_get, fold, zip, range_with_len}
use Rattle.std.specs.Option.{MatchOption}
use Rattle.std.specs.Iterator.{AlwaysYields}
use Rattle.std.proofs.Math.Seq.{set-append_seam, get_or-append_seam}
use Rattle.std.proofs.lemmas.Option.{slice_get_read}
use Rattle.std.proofs.lemmas.List.Sums.{length-filter, count_by-le-length}
use Rattle.std.proofs.lemmas.List.FromFn.{length-range_with_len}
use Rattle.grid.specs.declared.places.Places.{Places}
use Rattle.grid.specs.Purposes.{among}
use Rattle.grid.specs.Places.{places_left}
use Rattle.grid.specs.Walk.{laid, taken, next_place, places}

-- all places lie below n
abbrev pub Below : ℕ → List ℕ → Type 0
Below n [] = Unit {0}
Below n (p ∷ ps) = (p < n) × Below n ps

module _ (d : ℕ → Bool) where
  pub next_place-find : (n i : ℕ) → next_place d i n ≡ find d (range_with_len i n)
  unfolding next_place
  next_place-find zero i = refl
  next_place-find (suc n) i = rw (next_place-find n (suc i), add-one)

  first : (n i end : ℕ) → n ≡ end - i → MatchOption (next_place d i n) (places d i n ≡ []) (λ p. places d i n ≡ p ∷ places d (p + 1) (end - (p + 1)))
  unfolding next_place
  first zero i end e = refl
  first (suc n) i end e =
      elim (d i) as (λ b. MatchOption (cond b (Some i) (next_place d (suc i) n)) (cond b (i ∷ places d (i + 1) n) (places d (i + 1) n) ≡ [])
      (λ p. cond b (i ∷ places d (i + 1) n) (places d (i + 1) n) ≡ p ∷ places d (p + 1) (end - (p + 1)))) [
        | true ↦ ap (λ m. i ∷ places d (i + 1) m) (omega arith)
        | false ↦ rw (← add-one) (first n (i + 1) end (omega arith))
      ]

  below_after : (n i m : ℕ) → i + n ≤ m → Below m (places d i n)
  below_after zero i m h = tt
  below_after (suc n) i m h =
      let rest = below_after n (i + 1) m (omega arith) in
      elim (d i) as (λ b. Below m (cond b (i ∷ places d (i + 1) n) (places d (i + 1) n))) [ true ↦ (omega arith, rest) | false ↦ rest ]

  pub places_below : (n : ℕ) → Below n (places d 0 n)
  places_below n = below_after n 0 n (omega arith)

  pub length-places : (n : ℕ) → length (places d 0 n) ≤ n
  length-places n = omega (arith, length-filter d (range_with_len 0 n), count_by-le-length d (range_with_len 0 n), length-range_with_len 0 n)

pub below_more : {p : ℕ} {ps qs : List ℕ} (n : ℕ) → qs ≡ p ∷ ps → Below n qs → (p < n) × Below n ps
below_more n e h = subst (Below n) e h

-- the next place of a walk comes first, and then those after it
pub next_first : (walk : Places) (r : Option ℕ) → ((identity : ℕ) → walk.shift.value ≡ identity % 6 → r ≡ next_place (among walk.what identity) walk.from (walk.end - walk.from))
    → MatchOption r (places_left walk ≡ []) (λ p. places_left walk ≡ p ∷ places (among walk.what walk.shift.value) (p + 1) (walk.end - (p + 1)))
next_first walk r h = rw (h walk.shift.value (omega (arith, walk.shift.small))) (first (among walk.what walk.shift.value) (walk.end - walk.from) walk.from walk.end refl)

module _ {X : Type 0} where
  -- things put on places, one after another
  abbrev pub put_over : List X → List ℕ → List X → List X
  put_over xs ps ts = fold (λ ys q. set ys q.0 q.1) xs (zip ps ts)

  -- what stands on places
  abbrev pub standing : List X → List ℕ → List X
  standing xs ps = filter_map (slice_get xs) ps

  pub standing_first : (xs : List X) (p : ℕ) (ps qs : List ℕ) (x : X) → qs ≡ p ∷ ps → Below (length xs) qs → x ≡ get_or xs p x → standing xs qs ≡ x ∷ standing xs ps
  standing_first xs p ps qs x e h f = ap (standing xs) e ∙ ap (λ o. cons_option o (standing xs ps)) (slice_get_read xs (length xs) p x refl (below_more (length xs) e h).0 f)

  put_none : (ps : List ℕ) (xs : List X) → put_over xs ps [] ≡ xs
  put_none [] xs = refl
  put_none (p ∷ ps) xs = refl

  -- the next thing goes to the next place
  pub put_next : (xs zs : List X) (ps qs : List ℕ) (ts us : List X) (p : ℕ) (t : X) → qs ≡ p ∷ ps → us ≡ t ∷ ts → put_over xs qs us ≡ zs → put_over (set xs p t) ps ts ≡ zs
  put_next xs zs ps qs ts us p t e f h = sym (ap₂ (put_over xs) e f) ∙ h

  -- no thing is left
  pub put_done : (xs zs : List X) (qs : List ℕ) (us : List X) → us ≡ [] → put_over xs qs us ≡ zs → xs ≡ zs
  put_done xs zs qs us e h = sym (ap (put_over xs qs) e ∙ put_none qs xs) ∙ h

  module _ (d : ℕ → Bool) where
    laid_after : (xs ys ts : List X) (i : ℕ) → i ≡ length xs → xs ++ laid d i ys ts ≡ put_over (xs ++ ys) (places d i (length ys)) ts
    unfolding laid
    laid_after xs [] ts i e = refl
    laid_after xs (y ∷ ys) [] i e = sym (put_none (places d i (suc (length ys))) (xs ++ y ∷ ys))
    laid_after xs (y ∷ ys) (t ∷ ts) i e =
        grind (arith, set-append_seam xs y ys t, append_assoc {A = X}, length-append {A = X}, laid_after (xs ++ t ∷ []) ys ts (suc i), laid_after (xs ++ y ∷ []) ys (t ∷ ts) (suc i))

    pub laid-put_over : (xs ts : List X) → laid d 0 xs ts ≡ put_over xs (places d 0 (length xs)) ts
    laid-put_over xs ts = laid_after [] xs ts 0 refl

    taken_after : (xs ys : List X) (i : ℕ) → i ≡ length xs → taken d i ys ≡ standing (xs ++ ys) (places d i (length ys))
    unfolding taken
    taken_after xs [] i e = refl
    taken_after xs (y ∷ ys) i e =
        let is = slice_get_read (xs ++ y ∷ ys) (length (xs ++ y ∷ ys)) (length xs) y refl (simp length-append (omega arith)) (sym (get_or-append_seam xs y ys y)) in
        grind (arith, is, append_assoc {A = X}, length-append {A = X}, taken_after (xs ++ y ∷ []) ys (suc i))

    pub taken-standing : (xs : List X) → taken d 0 xs ≡ standing xs (places d 0 (length xs))
    taken-standing xs = taken_after [] xs 0 refl

  -- what is still to come from s, put over xs on the places ps, gives zs
  abbrev pub Lays : {S : Type 0} → (S → Option X → S → Type 0) → S → List ℕ → List X → List X → Type 0
  Lays steps s ps xs zs = (ts : List X) × AlwaysYields steps (λ t. t) s ts × (put_over xs ps ts ≡ zs)

  module _ {S : Type 0} (steps : S → Option X → S → Type 0) where
    pub lays_at_first : (d : ℕ → Bool) (s u : S) (ps : List ℕ) (xs ts : List X) → u ≡ s → ps ≡ places d 0 (length xs) → AlwaysYields steps (λ t. t) s ts
        → Lays steps u ps xs (laid d 0 xs ts)
    lays_at_first d s u ps xs ts e f y =
        (ts, subst (λ v. AlwaysYields steps (λ t. t) v ts) (sym e) y, ap (λ qs. put_over xs qs ts) f ∙ sym (laid-put_over d xs ts))

    pub lays_more : (s u : S) (p : ℕ) (ps qs : List ℕ) (t : X) (xs zs : List X) → qs ≡ p ∷ ps → steps s (Some t) u → Lays steps s qs xs zs → Lays steps u ps (set xs p t) zs
    lays_more s u p ps qs t xs zs e f l = go l.0 l.1 l.2
      where
        go : (ts : List X) → AlwaysYields steps (λ t. t) s ts → put_over xs qs ts ≡ zs → Lays steps u ps (set xs p t) zs
        go [] y h = absurd (y t u f)
        go (r ∷ ts) y h = let w = y.1 t u f in (ts, w.1, ap (λ v. put_over (set xs p v) ps ts) w.0 ∙ sym (ap (λ vs. put_over xs vs (r ∷ ts)) e) ∙ h)

    -- no place is left
    pub lays_out : (s : S) (ps : List ℕ) (xs zs : List X) → ps ≡ [] → Lays steps s ps xs zs → xs ≡ zs
    lays_out s ps xs zs e l = sym (ap (λ qs. put_over xs qs l.0) e) ∙ l.2

    -- nothing is left to put
    pub lays_end : (s u : S) (ps : List ℕ) (xs zs : List X) → steps s None u → Lays steps s ps xs zs → xs ≡ zs
    lays_end s u ps xs zs f l = go l.0 l.1 l.2
      where
        go : (ts : List X) → AlwaysYields steps (λ t. t) s ts → put_over xs ps ts ≡ zs → xs ≡ zs
        go [] y h = sym (put_none ps xs) ∙ h
        go (r ∷ ts) y h = absurd (y.0 u f)
