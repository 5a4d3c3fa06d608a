-- Three streams one after the other: each place is read once. Assumes nothing.
use Rattle.std.specs.Prelude.{◌≡◌, ℕ, ◌+◌, ◌*◌, ◌/◌, ◌%◌, ◌<◌, [], ◌∷◌, length, slice_index}
use Rattle.std.proofs.Common.{sym, ◌∙◌, arith}
use Rattle.std.proofs.Math.Path.{ap}
use Rattle.std.proofs.Math.Nat.{zero-add}
use Rattle.std.proofs.lemmas.List.{get_or-map, length-map}
use Rattle.std.proofs.lemmas.List.FromFn.{get_or-range_with_len}
use Rattle.std.proofs.lemmas.Nat.{mul-add-lt, div_below, mod_below, div-add-mod'}
use Rattle.stage.specs.Gather.{Within, Every}
use Rattle.interleaver.specs.Interleaving.{places, stream_places, triple}
use Rattle.interleaver.specs.Joins.{length-joined, slice_index-joined}
use Rattle.interleaver.specs.Cells.{length-places, places-within, places-every}

module _ (d : ℕ) where
  length-stream : (s : ℕ) → length (stream_places d s) ≡ d
  length-stream s = length-map (places d) (λ p. s * d + p) ∙ length-places d

  pub length-triple : length (triple d) ≡ 3 * d
  unfolding triple
  length-triple = length-joined (stream_places d) d length-stream (0 ∷ 1 ∷ 2 ∷ [])

  pub slice_index-triple : (s j : ℕ) → s < 3 → j < d → slice_index (triple d) (s * d + j) ≡ s * d + slice_index (places d) j
  unfolding triple
  slice_index-triple s j h g =
      let l = length-places d in
      slice_index-joined (stream_places d) d length-stream (0 ∷ 1 ∷ 2 ∷ []) s j h g
      ∙ ap (λ i. slice_index (stream_places d i) j) (get_or-range_with_len 0 3 s 0 h ∙ zero-add s)
      ∙ get_or-map (λ p. s * d + p) (places d) j 0 0 (omega arith)

  -- bit j of stream s
  pub split : (i : ℕ) → i < 3 * d → (s : ℕ) × (j : ℕ) × (s < 3) × (j < d) × (s * d + j ≡ i)
  split i h =
      let some : 0 < d = omega arith in
      (i / d, i % d, div_below i d 3 some h, mod_below i d some, div-add-mod' i d)

  pub triple-within : Within (3 * d) (triple d)
  triple-within i h =
      let l = length-triple in
      let b = split i (omega arith) in
      let e = ap (λ n. slice_index (triple d) n) (sym b.4) ∙ slice_index-triple b.0 b.1 b.2 b.3 in
      omega (arith, mul-add-lt b.0 d (slice_index (places d) b.1) 3 b.2 (places-within d b.1 b.3))

  pub triple-every : Every (3 * d) (triple d)
  triple-every p h =
      let l = length-triple in
      let b = split p h in
      let e = places-every d b.1 b.3 in (
        b.0 * d + e.0,
        omega (arith, mul-add-lt b.0 d e.0 3 b.2 e.1),
        slice_index-triple b.0 e.0 b.2 e.1 ∙ ap (λ q. b.0 * d + q) e.2 ∙ b.4,
      )
