-- Lists of one length, one after the other. Assumes nothing.
use Rattle.std.specs.Prelude.{◌≡◌, ℕ, ◌+◌, ◌*◌, ◌<◌, List, [], ◌∷◌, length, take, slice_index}
use Rattle.std.proofs.Common.{sym, ◌∙◌, ap, zero-mul, suc-mul, arith}
use Rattle.std.specs.List.{flat_map as joined}
use Rattle.std.proofs.lemmas.List.{length-append, length-take-le}
use Rattle.std.proofs.lemmas.List.Concat.{get_or-flat_map}

module _ (f : ℕ → List ℕ) (n : ℕ) (each : (c : ℕ) → length (f c) ≡ n) where
  pub length-joined : (cs : List ℕ) → length (joined f cs) ≡ length cs * n
  length-joined [] = sym (zero-mul n)
  length-joined (c ∷ cs) =
      length-append (f c) (joined f cs) ∙ omega (arith, each c, length-joined cs, suc-mul (length cs) n)

  pub slice_index-joined : (cs : List ℕ) (c r : ℕ) → c < length cs → r < n → slice_index (joined f cs) (c * n + r) ≡ slice_index (f (slice_index cs c)) r
  slice_index-joined cs c r h g =
      let before : length (joined f (take c cs)) ≡ c * n =
      length-joined (take c cs) ∙ ap (λ m. m * n) (length-take-le c cs (omega arith)) in
      ap (λ k. slice_index (joined f cs) (k + r)) (sym before)
      ∙ get_or-flat_map f cs c r 0 0 h (omega (arith, each (slice_index cs c)))
