-- What becomes of blocks that are handed to a sink. Assumes nothing.
use Rattle.std.specs.Prelude.{◌≡◌, ℕ, List, [], ◌∷◌}

-- the sink has taken these blocks, in this order, each once, and nothing else has happened to it
abbrev pub Taken : {T : Type 0} → (T → List ℕ → T → Type 0) → T → List (List ℕ) → T → Type 0
Taken takes s [] s' = s' ≡ s
Taken {T} takes s (b ∷ bs) s' = (u : T) × takes s b u × Taken takes u bs s'
