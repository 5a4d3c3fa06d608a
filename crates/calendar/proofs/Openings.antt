-- Open subframes, counted one by one. Assumes nothing.
use Rattle.std.proofs.Common.{◌≡◌, ℕ, zero, suc, ◌+◌, ◌<◌, ◌≤◌, Bool, true, false, sym, refl, ap, ◌∙◌, subst, ⊎_elim, add-one, arith}
use Rattle.std.proofs.lemmas.Bool.{cond-false, cond-true, cases_Bool, cases_order, cases_eq}
use Rattle.std.proofs.lemmas.Bool.Decides.{nat_tests}
use Rattle.calendar.specs.declared.time.Time.{Time}
use Rattle.calendar.specs.Calendar.{later, open_among, NthOpen}
use Rattle.calendar.specs.Times.{after, closed, next_open, open_at}

-- no more than two closed subframes stand side by side
pub third_open : (t : Time) → closed t ≡ true → closed (after t) ≡ true → closed (after (after t)) ≡ false
third_open t h k = grind (arith, nat_tests)

pub open_here : (t : Time) → closed t ≡ false → next_open t ≡ t
open_here t h = cond-false (closed t) _ t h

pub open_second : (t : Time) → closed t ≡ true → closed (after t) ≡ false → next_open t ≡ after t
open_second t h k = cond-true (closed t) _ t h ∙ cond-false (closed (after t)) (after (after t)) (after t) k

pub open_third : (t : Time) → closed t ≡ true → closed (after t) ≡ true → next_open t ≡ after (after t)
open_third t h k = cond-true (closed t) _ t h ∙ cond-true (closed (after t)) (after (after t)) (after t) k

-- a closed subframe is passed over
pub next_past : (t : Time) → closed t ≡ true → next_open (after t) ≡ next_open t
next_past t h = grind (arith, nat_tests)

pub opens_first : (start : Time) → open_at start 0 ≡ next_open start
unfolding open_at
opens_first start = refl

pub opens_next : (start : Time) (k : ℕ) → open_at start (k + 1) ≡ next_open (after (open_at start k))
unfolding open_at
opens_next start k = ap (open_at start) (add-one k)

-- no subframe number grows past what it was, or 9
module _ (b : ℕ) (nine : 9 ≤ b) where
  pub after_small : (t : Time) → t.subframe ≤ b → (after t).subframe ≤ b
  after_small t h = grind (arith, nat_tests)

  next_small : (t : Time) → t.subframe ≤ b → (next_open t).subframe ≤ b
  next_small t h = let u = after_small t h in let v = after_small (after t) u in grind (arith, nat_tests)

  pub open_small : (t : Time) (k : ℕ) → t.subframe ≤ b → (open_at t k).subframe ≤ b
  unfolding open_at
  open_small t zero h = next_small t h
  open_small t (suc k) h = next_small (after (open_at t k)) (after_small (open_at t k) (open_small t k h))

module _ (t : Time) where
  -- one subframe more, closed or open
  past_closed : (j : ℕ) → closed (later t j) ≡ true → open_among t (suc j) ≡ open_among t j
  unfolding open_among
  past_closed j h = cond-true (closed (later t j)) (open_among t j) (suc (open_among t j)) h

  past_open : (j : ℕ) → closed (later t j) ≡ false → open_among t (suc j) ≡ suc (open_among t j)
  unfolding open_among
  past_open j h = cond-false (closed (later t j)) (open_among t j) (suc (open_among t j)) h

  found : (k i : ℕ) (u : Time) → u ≡ later t i → closed (later t i) ≡ false → open_among t i ≡ k → NthOpen t k u
  found k i u e h n =
      record { steps = i; reached = e; is_open = ap (λ (x : Time). closed x) e ∙ h; passed = n }

  -- the first open subframe from the time j steps on
  from_cases : (j : ℕ) (a b : Bool) → closed (later t j) ≡ a → closed (after (later t j)) ≡ b
      → NthOpen t (open_among t j) (next_open (later t j))
  unfolding later
  from_cases j false b p q = found (open_among t j) j _ (open_here (later t j) p) p refl
  from_cases j true false p q = found (open_among t j) (suc j) _ (open_second (later t j) p q) q (past_closed j p)
  from_cases j true true p q =
      found (open_among t j) (suc (suc j)) _ (open_third (later t j) p q) (third_open (later t j) p q)
      (past_closed (suc j) q ∙ past_closed j p)

  from_there : (j : ℕ) → NthOpen t (open_among t j) (next_open (later t j))
  from_there j = from_cases j (closed (later t j)) (closed (after (later t j))) refl refl

  nth_next : (k : ℕ) (u : Time) → NthOpen t k u → NthOpen t (suc k) (next_open (after u))
  unfolding later
  nth_next k u n =
      let there = from_there (suc n.steps) in
      let passed = past_open n.steps (ap (λ (x : Time). closed x) (sym n.reached) ∙ n.is_open) ∙ ap suc n.passed in
      let at : later t (suc n.steps) ≡ after u = ap (λ (x : Time). after x) (sym n.reached) in
      subst (λ (i : ℕ). NthOpen t i (next_open (after u))) passed
      (subst (λ (x : Time). NthOpen t (open_among t (suc n.steps)) (next_open x)) at there)

  pub nth_open : (k : ℕ) → NthOpen t k (open_at t k)
  unfolding open_at open_among later
  nth_open zero = from_there 0
  nth_open (suc k) = nth_next k (open_at t k) (nth_open k)

  -- past an open subframe there are more
  among_more : (j : ℕ) → open_among t j ≤ open_among t (suc j)
  among_more j = ⊎_elim (λ h. omega (arith, past_closed j h)) (λ h. omega (arith, past_open j h)) (cases_Bool (closed (later t j)))

  among_past : (i j : ℕ) → closed (later t i) ≡ false → i < j → open_among t i < open_among t j
  among_past i zero h l = absurd (omega arith)
  among_past i (suc j) h l =
      ⊎_elim (λ e. let p = ap (open_among t) e in omega (arith, past_open i h, p, ap (λ (k : ℕ). open_among t (suc k)) e))
      (λ ne. omega (arith, among_more j, among_past i j h (omega arith)))
      (cases_eq i j)

  pub nth_only : (k : ℕ) (u v : Time) → NthOpen t k u → NthOpen t k v → u ≡ v
  nth_only k u v m n =
      ⊎_elim (λ e. m.reached ∙ ap (later t) e ∙ sym n.reached)
      (⊎_elim (λ l. clash u v m n l) (λ l. clash v u n m l))
      (cases_order m.steps n.steps)
    where
      clash : (x y : Time) (p : NthOpen t k x) (q : NthOpen t k y) → p.steps < q.steps → u ≡ v
      clash x y p q l =
          let more = among_past p.steps q.steps (ap (λ (z : Time). closed z) (sym p.reached) ∙ p.is_open) l in
          absurd (omega (arith, p.passed, q.passed))
