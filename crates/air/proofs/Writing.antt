-- The data arm of a subframe call. Assumes nothing.
use Rattle.std.proofs.Common.{◌≡◌, ℕ, ◌+◌, ◌-◌, ◌*◌, ◌≤◌, Bool, true, false, not, List, take, drop, Some, Option, sym, ap, ◌∙◌, ap₂, arith}
use Rattle.std.proofs.lemmas.Bool.{not-true}
use Rattle.std.proofs.lemmas.List.{drop-take, take-take}
use Rattle.point.specs.Kinds.{Kind}
use Rattle.calendar.specs.Times.{closed}
use Rattle.air.specs.Cells.{Sending, CellState, written, airs, part_of}

pub airs_data : {X : Type 0} (K : Kind X) (c : CellState) (s : Sending) → not (closed c.time) ≡ true → Some s ≡ c.pending
    → written K c.identity c.chain c.time false (Some s) ≡ airs K c
airs_data K c s e p =
    ap₂ (λ (b : Bool) (q : Option Sending). written K c.identity c.chain c.time b q) (sym (not-true (closed c.time) e)) p

-- a part of the word at the start of a buffer
pub part_in : (n p from : ℕ) (w : List ℕ) → from ≡ 320 * p → from + 320 ≤ 320 * n → take (from + 320 - from) (drop from w) ≡ part_of p (take (320 * n) w)
part_in n p from w is within =
    let a : from + 320 - from ≡ 320 = omega arith in
    let b : 320 * n ≡ 320 * p + (320 * n - 320 * p) = omega arith in
    ap₂ (λ (j k : ℕ). take j (drop k w)) a is
    ∙ sym (ap (λ (k : ℕ). part_of p (take k w)) b ∙ ap (take 320) (drop-take (320 * p) (320 * n - 320 * p) w)
    ∙ take-take 320 (320 * n - 320 * p) (drop (320 * p) w) (omega arith))
