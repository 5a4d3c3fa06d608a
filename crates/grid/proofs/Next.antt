-- The next chosen place, one place on.
use Rattle.std.proofs.Common.{◌≡◌, ℕ, suc, ◌+◌, ◌-◌, ◌<◌, ◌≤◌, Bool, true, false, cond, Some, None, add-one, arith}
use Rattle.grid.specs.Walk.{next_place}

module _ (d : ℕ → Bool) (i n : ℕ) where
  pub next_past : n ≤ i → next_place d i (n - i) ≡ None
  unfolding next_place
  next_past h = let e : n - i ≡ 0 = omega arith in rw e

  next_step : (b : Bool) → i < n → d i ≡ b → next_place d i (n - i) ≡ cond b (Some i) (next_place d (i + 1) (n - (i + 1)))
  unfolding next_place
  next_step b h e = let m : n - i ≡ suc (n - (i + 1)) = omega arith in rw (m, add-one, e)

  pub next_here : i < n → d i ≡ true → next_place d i (n - i) ≡ Some i
  next_here h e = next_step true h e

  pub next_on : i < n → d i ≡ false → next_place d i (n - i) ≡ next_place d (i + 1) (n - (i + 1))
  next_on h e = next_step false h e
