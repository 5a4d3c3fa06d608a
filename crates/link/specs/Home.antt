-- Blocks come home: the law over whole runs of a cell and the terminal that follows it. Assumes nothing.
use Rattle.std.specs.Prelude.{◌≡◌, ℕ, List, [], ◌∷◌, ◌++◌}
use Rattle.point.specs.Kinds.{Kind}
use Rattle.link.specs.Calls.{Call}
use Rattle.link.specs.Account.{Account, booked}
use Rattle.link.specs.Following.{LinkState, Buffers, linked_on, handed_on, Serves}

-- a run: calls of the cell, each with the buffers in which the terminal hears
abbrev pub Run : Type 0 → Type 0
Run X = List (Call X × Buffers)

-- the blocks handed up over a run, in the order heard
abbrev pub handed_over : {X : Type 0} → Kind X → LinkState → Run X → List (List ℕ)
handed_over K l [] = []
handed_over K l (x ∷ xs) = handed_on K l x.1 x.0 ++ handed_over K (linked_on K l x.1 x.0) xs

abbrev pub Served : {X : Type 0} → Kind X → LinkState → Run X → Type 0
Served K l [] = Unit {0}
Served K l (x ∷ xs) = Serves l x.1 x.0 × Served K (linked_on K l x.1 x.0) xs

-- the account is fed the calls alone
abbrev pub accounted : {X : Type 0} → Account → Run X → Account
accounted a [] = a
accounted a (x ∷ xs) = accounted (booked a x.0) xs

-- After every list of calls, with any arguments and refused ones included, the blocks that the terminal has handed up are those on
-- the account: the covered blocks of which every part went out, in order, each once.
abbrev pub BlocksComeHome : {X : Type 0} → Kind X → LinkState → Account → Type 0
BlocksComeHome {X} K l a = (calls : Run X) → Served K l calls → handed_over K l calls ≡ (accounted a calls).blocks
