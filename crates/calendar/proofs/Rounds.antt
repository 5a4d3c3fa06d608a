-- A grant's rounds, subframe by subframe. Assumes nothing.
use Rattle.std.proofs.Common.{◌≡◌, ℕ, ◌+◌, ◌-◌, ◌*◌, ◌/◌, ◌%◌, ◌^◌, ◌<◌, ◌≤◌, min, true, eqb, sym, refl, ap, ◌∙◌, add_assoc, div-add-mod', zero-mul, mul_left_comm, arith}
use native.Mathlib.Nat.{div-eq_of_lt}
use Rattle.std.proofs.lemmas.Nat.{div-mul-add, mod-mul-add, mod_below, mul-add-lt}
use Rattle.std.proofs.lemmas.Bool.{eqb-true}
use Rattle.calendar.specs.declared.grant.Grant.{Grant}
use Rattle.calendar.specs.declared.time.Time.{Time}
use Rattle.calendar.specs.Calendar.{InRounds}
use Rattle.calendar.specs.Grants.{repetition_counts, repetitions_allowed}
use Rattle.calendar.specs.Rounds.{copies, round, whole, part_at, round_first, seed_at}
use Rattle.calendar.proofs.Counting.{listed}
use Rattle.calendar.proofs.Openings.{open_small}

pub first_round : (g : Grant) → 0 < round g → round_first g 0 ≡ 0
unfolding round_first
first_round g pos = ap (λ (q : ℕ). q * round g) (div-eq_of_lt pos) ∙ zero-mul (round g)

-- a round begins
pub round_here : (g : Grant) (k : ℕ) → k % round g ≡ 0 → round_first g k ≡ k
unfolding round_first
round_here g k e = let d = div-add-mod' k (round g) in omega arith

-- or goes on
pub round_on : (g : Grant) (k : ℕ) → 0 < round g → ((k + 1) % round g ≡ 0 → ⊥) → round_first g (k + 1) ≡ round_first g k
unfolding round_first
round_on g k pos ne =
    let d = div-add-mod' (k + 1) (round g) in
    let low = mod_below (k + 1) (round g) pos in
    let some : 0 < (k + 1) % round g = omega arith in
    let is : (k + 1) / round g * round g + ((k + 1) % round g - 1) ≡ k = omega arith in
    ap (λ (q : ℕ). q * round g)
    (sym (ap (λ (x : ℕ). x / round g) (sym is) ∙ div-mul-add ((k + 1) / round g) (round g) ((k + 1) % round g - 1) (omega arith)))

pub seed_small : (identity : ℕ) (g : Grant) (start : Time) (k : ℕ) → identity ≤ 503 → g.rnti ≤ 65535 → start.subframe ≤ 255
    → seed_at identity g start k < 2 ^ 31
unfolding seed_at
seed_small identity g start k i r s = let o = open_small 255 (omega arith) start (round_first g k) s in omega arith

-- copy c of part p, in round i
module _ (g : Grant) (i p c : ℕ) (low : p < g.subframes) (few : c < copies g) where
  place-low : p * copies g + c < round g
  place-low = let l = mul-add-lt p (copies g) c g.subframes low few in omega arith

  pub copy_part : part_at g (i * round g + p * copies g + c) ≡ p
  unfolding part_at
  copy_part =
      ap (λ (k : ℕ). k % round g / copies g) (add_assoc (i * round g) (p * copies g) c)
      ∙ ap (λ (k : ℕ). k / copies g) (mod-mul-add i (round g) (p * copies g + c) place-low)
      ∙ div-mul-add p (copies g) c few

  pub copy_first : round_first g (i * round g + p * copies g + c) ≡ i * round g
  unfolding round_first
  copy_first =
      ap (λ (k : ℕ). k / round g * round g) (add_assoc (i * round g) (p * copies g) c)
      ∙ ap (λ (q : ℕ). q * round g) (div-mul-add i (round g) (p * copies g + c) place-low)

pub rounds_end : (g : Grant) → repetitions_allowed g ≡ true → whole g ≡ g.repetitions / copies g * round g
rounds_end g h =
    let q = g.repetitions / copies g in
    let is = eqb-true (q * copies g) g.repetitions (listed (λ n. eqb (n / min n 4 * min n 4) n) repetition_counts refl g.repetitions h) in
    ap (λ (m : ℕ). g.subframes * m) (sym is) ∙ mul_left_comm g.subframes q (copies g)

pub in_rounds : (g : Grant) → repetitions_allowed g ≡ true → InRounds g
in_rounds g h =
    record {
      ends = rounds_end g h;
      part = λ i p c low few. copy_part g i p c low few;
      first = λ i p c low few. copy_first g i p c low few;
    }
