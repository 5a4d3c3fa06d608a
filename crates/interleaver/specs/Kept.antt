-- What a filter keeps of a list: how much, and that what passes stands there. Assumes nothing.
use Rattle.std.specs.Prelude.{◌≡◌, ℕ, zero, suc, ◌+◌, ◌*◌, ◌<◌, ◌≤◌, Bool, true, false, cond, List, [], ◌∷◌, ◌++◌, map, length, take, drop, sum_by, filter, slice_index, slice_index_or, refl}
use Rattle.std.proofs.Common.{sym, ◌∙◌, ap, subst, zero-mul, suc-mul, arith}
use Rattle.std.specs.List.{range_with_len, flat_map}
use Rattle.std.proofs.lemmas.List.{take-append-drop, drop_more, get_or_at, length-append}
use Rattle.std.proofs.lemmas.List.Elements.{filter-append}
use Rattle.std.proofs.lemmas.List.Sums.{sum_by-cons}

pub kept_at : (p : ℕ → Bool) (l : List ℕ) (t : ℕ) → t < length l → p (slice_index l t) ≡ true
    → (k : ℕ) × (k < length (filter p l)) × (slice_index (filter p l) k ≡ slice_index l t)
kept_at p l t h e =
    let x = slice_index_or l t 0 in
    let k = filter p (take t l) in
    let r = filter p (drop (t + 1) l) in
    let s : filter p l ≡ k ++ x ∷ r =
    ap (filter p) (sym (take-append-drop t l))
    ∙ filter-append p (take t l) (drop t l)
    ∙ ap (λ ys. k ++ ys) (ap (filter p) (drop_more l t 0 h) ∙ ap (λ b. cond b (x ∷ r) r) e) in (
      length k,
      subst (λ ys. length k < length ys) (sym s) (simp length-append (omega arith)),
      ap (λ ys. slice_index ys (length k)) s ∙ get_or_at k x r 0 (length k) refl,
    )

pub head_kept : (b : Bool) (x : ℕ) (ks : List ℕ) → length (cond b (x ∷ ks) ks) ≡ cond b 1 0 + length ks
head_kept true x ks = omega arith
head_kept false x ks = omega arith

-- how many are kept of lists that stand one after the other
pub kept_joined : (p : ℕ → Bool) (f : ℕ → List ℕ) (g : ℕ → ℕ) → ((c : ℕ) → length (filter p (f c)) ≡ g c) → (cs : List ℕ)
    → length (filter p (flat_map f cs)) ≡ sum_by g cs
kept_joined p f g e [] = refl
kept_joined p f g e (c ∷ cs) =
    ap length (filter-append p (f c) (flat_map f cs))
    ∙ length-append (filter p (f c)) (filter p (flat_map f cs))
    ∙ omega (arith, e c, kept_joined p f g e cs, sum_by-cons g c cs)

-- the same, each list as much as m, and one more where its number passes
pub kept_of_each : (p q : ℕ → Bool) (f : ℕ → List ℕ) (m : ℕ) → ((c : ℕ) → length (filter p (f c)) ≡ cond (q c) 1 0 + m) → (cs : List ℕ)
    → length (filter p (flat_map f cs)) ≡ length (filter q cs) + length cs * m
kept_of_each p q f m e cs = kept_joined p f (λ c. cond (q c) 1 0 + m) e cs ∙ summed cs
  where
    summed : (cs : List ℕ) → sum_by (λ c. cond (q c) 1 0 + m) cs ≡ length (filter q cs) + length cs * m
    summed [] = omega (arith, zero-mul m)
    summed (c ∷ cs) =
        sum_by-cons (λ c. cond (q c) 1 0 + m) c cs ∙ omega (arith, summed cs, head_kept (q c) c (filter q cs), suc-mul (length cs) m)

-- where all pass, all are kept
pub kept_counting : (p : ℕ → Bool) (f : ℕ → ℕ) (a n : ℕ) → ((r : ℕ) → a ≤ r → p (f r) ≡ true)
    → length (filter p (map f (range_with_len a n))) ≡ n
kept_counting p f a zero h = refl
kept_counting p f a (suc n) h =
    let ks = filter p (map f (range_with_len (a + 1) n)) in
    ap (λ b. length (cond b (f a ∷ ks) ks)) (h a (omega arith))
    ∙ ap suc (kept_counting p f (a + 1) n (λ r g. h r (omega arith)))
