-- A list that calls filled, each with the same value.
use Rattle.std.proofs.Common.{◌≡◌, List, [], ◌∷◌, length, replicate, refl, ap₂, subst}
use Rattle.std.specs.List.{FoldsTo}

-- by calls that change nothing that they hold
pub filled : {F X : Type 0} (R : F → X → F → Type 0) (b : X) (f : F) → ((x : X) (g : F) → R f x g → (x ≡ b) × (g ≡ f)) → (xs : List X) (g : F) → FoldsTo R f xs g → xs ≡ replicate (length xs) b
filled R b f h [] g r = refl
filled R b f h (x ∷ xs) g r =
    let s = h x r.0 r.1 in
    ap₂ (λ y ys. y ∷ ys) s.0 (filled R b f h xs g (subst (λ e. FoldsTo R e xs g) s.1 r.2))
