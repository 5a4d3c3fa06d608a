-- Where an element of a list stands among what a filter keeps of it, and where a cell's bit stands as they are read. Assumes nothing.
use Rattle.std.proofs.Common.{◌≡◌, ℕ, zero, suc, ◌+◌, ◌-◌, ◌*◌, ◌<◌, ◌≤◌, Bool, true, false, cond, List, ◌∷◌, ◌++◌, length, take, drop, filter, sym, refl, ap, ◌∙◌, subst, ⊎_elim, add-one, arith}
use Rattle.std.specs.Prelude.{slice_index, slice_index_or}
use Rattle.std.proofs.lemmas.Bool.{cases_lt, cases_Bool, le-leb}
use Rattle.std.proofs.lemmas.List.{take-append-drop, drop_more, get_or_at, get_or-map, length-map, length-append, take_all}
use Rattle.std.proofs.lemmas.List.Elements.{filter-append}
use Rattle.std.proofs.lemmas.List.Filters.{length-filter_more}
use Rattle.interleaver.specs.Interleaving.{rows, unused, used, reading, places}
use Rattle.interleaver.specs.Cells.{length-reading, length-places}

-- how many of the first t pass
abbrev pub pos : (ℕ → Bool) → List ℕ → ℕ → ℕ
pos p l t = length (filter p (take t l))

-- an element among the first t that passes, with j passing before it
abbrev pub Source : (ℕ → Bool) → List ℕ → ℕ → ℕ → Type 0
Source p l t j = (u : ℕ) × (u < t) × (p (slice_index l u) ≡ true) × (pos p l u ≡ j)

module _ (p : ℕ → Bool) (l : List ℕ) where
  pub pos_yes : (t : ℕ) → t < length l → p (slice_index l t) ≡ true → pos p l (t + 1) ≡ pos p l t + 1
  pos_yes t h e = length-filter_more p l t 0 h ∙ ap (λ b. pos p l t + cond b 1 0) e

  pub pos_no : (t : ℕ) → t < length l → p (slice_index l t) ≡ false → pos p l (t + 1) ≡ pos p l t
  pos_no t h e = length-filter_more p l t 0 h ∙ (ap (λ b. pos p l t + cond b 1 0) e ∙ omega arith)

  pub pos-all : (t : ℕ) → length l ≤ t → pos p l t ≡ length (filter p l)
  pos-all t h = ap (λ xs. length (filter p xs)) (take_all t l h)

  -- what passes stands at its place among what is kept
  pub at-pos : (t : ℕ) → t < length l → p (slice_index l t) ≡ true
      → (pos p l t < length (filter p l)) × (slice_index (filter p l) (pos p l t) ≡ slice_index l t)
  at-pos t h e =
      let x = slice_index_or l t 0 in
      let k = filter p (take t l) in
      let r = filter p (drop (t + 1) l) in
      let s : filter p l ≡ k ++ x ∷ r =
      ap (filter p) (sym (take-append-drop t l))
      ∙ filter-append p (take t l) (drop t l)
      ∙ ap (λ ys. k ++ ys) (ap (filter p) (drop_more l t 0 h) ∙ ap (λ b. cond b (x ∷ r) r) e) in (
        subst (λ ys. length k < length ys) (sym s) (simp length-append (omega arith)),
        ap (λ ys. slice_index ys (length k)) s ∙ get_or_at k x r 0 (length k) refl,
      )

  from_step : (t j : ℕ) → t < length l → (j < pos p l t → Source p l t j) → j < pos p l (suc t) → Source p l (suc t) j
  from_step t j h ih g = ⊎_elim passes fails (cases_Bool (p (slice_index l t)))
    where
      lower : j < pos p l t → Source p l (suc t) j
      lower i = let v = ih i in (v.0, omega arith, v.2, v.3)

      passes : p (slice_index l t) ≡ true → Source p l (suc t) j
      passes e =
          let n : pos p l (suc t) ≡ pos p l t + 1 = ap (pos p l) (sym (add-one t)) ∙ pos_yes t h e in
          ⊎_elim lower (λ i. (t, omega arith, e, omega arith)) (cases_lt j (pos p l t))

      fails : p (slice_index l t) ≡ false → Source p l (suc t) j
      fails e = let n : pos p l (suc t) ≡ pos p l t = ap (pos p l) (sym (add-one t)) ∙ pos_no t h e in lower (omega arith)

  -- each place among what is kept has an element that stands there
  pub from_pos : (t j : ℕ) → t ≤ length l → j < pos p l t → Source p l t j
  from_pos zero j h g = absurd (omega arith)
  from_pos (suc t) j h g = from_step t j (omega arith) (from_pos t j (omega arith)) g

module _ (d : ℕ) where
  length_kept : length (filter (used d) (reading d)) ≡ d
  unfolding places
  length_kept = sym (length-map (filter (used d) (reading d)) (λ q. q - unused d)) ∙ length-places d

  pub used_all : (t : ℕ) → 32 * rows d ≤ t → pos (used d) (reading d) t ≡ d
  used_all t h = let l = length-reading d in pos-all (used d) (reading d) t (omega arith) ∙ length_kept

  -- the bit that is read after t cells, of which some were used
  pub places-at : (t : ℕ) → t < 32 * rows d → unused d ≤ slice_index (reading d) t
      → (pos (used d) (reading d) t < d) × (slice_index (places d) (pos (used d) (reading d) t) ≡ slice_index (reading d) t - unused d)
  unfolding places
  places-at t h g =
      let l = length-reading d in
      let a = at-pos (used d) (reading d) t (omega arith) (le-leb (unused d) (slice_index (reading d) t) g) in
      let n = length_kept in (
        omega (arith, a.0),
        get_or-map (λ q. q - unused d) (filter (used d) (reading d)) (pos (used d) (reading d) t) 0 0 a.0
            ∙ ap (λ q. q - unused d) a.1,
      )
