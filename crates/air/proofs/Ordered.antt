-- Tests one after the other. Assumes nothing.
use Rattle.std.proofs.Common.{◌≡◌, Bool, false, List, [], ◌∷◌, None, sym}
use Rattle.stage.specs.Refusals.{first_fault}
use Rattle.stage.proofs.Opened.{first_none}

-- each test lets a call pass
abbrev pub Passes : {F : Type 0} → List (Bool × F) → Type 0
Passes [] = Unit {0}
Passes (t ∷ ts) = (t.0 ≡ false) × Passes ts

pub all_pass : {F : Type 0} (ts : List (Bool × F)) → None ≡ first_fault ts → Passes ts
all_pass [] h = tt
all_pass (t ∷ ts) h = let p = first_none t.0 t.1 ts (sym h) in (p.0, all_pass ts (sym p.1))
