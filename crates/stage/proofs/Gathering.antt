-- Words gathered by places: linear, and covering where every place occurs. Assumes nothing.
use Rattle.std.proofs.Common.{◌≡◌, ℕ, ◌<◌, true, List, length, get_or, sym, ap, ◌∙◌, subst, ap₂, arith}
use lib.Bits.{bit_xor}
use Rattle.std.proofs.lemmas.List.{ext_get_or, get_or-map, length-map}
use Rattle.stage.specs.Bits.{binary, Bits, xor}
use Rattle.stage.specs.Gather.{gathered, Within, Every}
use Rattle.stage.specs.Xors.{slice_index-xor, length_xor_same}
use Rattle.stage.proofs.Binary.{binary_from, binary-at}

pub length-gathered : (ps xs : List ℕ) → length (gathered ps xs) ≡ length ps
unfolding gathered
length-gathered ps xs = length-map ps (λ p. get_or xs p 0)

pub slice_index-gathered : (ps xs : List ℕ) (k : ℕ) → k < length ps → get_or (gathered ps xs) k 0 ≡ get_or xs (get_or ps k 0) 0
unfolding gathered
slice_index-gathered ps xs k h = get_or-map (λ p. get_or xs p 0) ps k 0 0 h

pub gathered_bits : (ps xs : List ℕ) → Within (length xs) ps → binary xs ≡ true → Bits (length ps) (gathered ps xs)
gathered_bits ps xs w e =
    let l = length-gathered ps xs in (
      l,
      binary_from (gathered ps xs) (λ k h.
          let i : k < length ps = omega arith in
          subst (λ x. x < 2) (sym (slice_index-gathered ps xs k i)) (binary-at xs (get_or ps k 0) e (w k i))),
    )

pub gathered-xor : (ps xs ys : List ℕ) → gathered ps (xor xs ys) ≡ xor (gathered ps xs) (gathered ps ys)
gathered-xor ps xs ys =
    let a = length-gathered ps (xor xs ys) in
    let b = length-gathered ps xs in
    let c = length-gathered ps ys in
    let d = length_xor_same (gathered ps xs) (gathered ps ys) (b ∙ sym c) in
    ext_get_or 0 (gathered ps (xor xs ys)) (xor (gathered ps xs) (gathered ps ys)) (omega arith) (λ k h.
    let i : k < length ps = omega arith in
    slice_index-gathered ps (xor xs ys) k i ∙ slice_index-xor xs ys (get_or ps k 0)
    ∙ ap₂ bit_xor (sym (slice_index-gathered ps xs k i)) (sym (slice_index-gathered ps ys k i))
    ∙ sym (slice_index-xor (gathered ps xs) (gathered ps ys) k))

pub gathered_apart : (ps xs ys : List ℕ) → length xs ≡ length ys → Every (length xs) ps → gathered ps xs ≡ gathered ps ys → xs ≡ ys
gathered_apart ps xs ys n every e =
    ext_get_or 0 xs ys n (λ p h.
    let s = every p h in
    ap (λ i. get_or xs i 0) (sym s.2) ∙ sym (slice_index-gathered ps xs s.0 s.1)
    ∙ ap (λ zs. get_or zs s.0 0) e ∙ slice_index-gathered ps ys s.0 s.1 ∙ ap (λ i. get_or ys i 0) s.2)

-- where every place occurs, only bits are gathered as bits
pub bits_from_gathered : (ps xs : List ℕ) → Every (length xs) ps → binary (gathered ps xs) ≡ true → binary xs ≡ true
bits_from_gathered ps xs every e =
    let l = length-gathered ps xs in
    binary_from xs (λ p h.
    let s = every p h in
    subst (λ x. x < 2) (slice_index-gathered ps xs s.0 s.1 ∙ ap (λ i. get_or xs i 0) s.2)
    (binary-at (gathered ps xs) s.0 e (omega (arith, s.1))))
