-- Worked figures of the tail-biting code. Assumes nothing.
use Rattle.std.proofs.Common.{◌≡◌, ℕ, suc, ◌+◌, ◌-◌, ◌≤◌, List, [], ◌∷◌, ◌++◌, length, take, drop, replicate, sym, refl, ap, ◌∙◌, ap₂, arith}
use lib.ListN.{length-replicate}
use Rattle.std.specs.List.{AllByRecursion}
use Rattle.std.proofs.lemmas.List.{length-append, append_assoc, take-replicate, drop-replicate, replicate-append-replicate}
use Rattle.stage.specs.Bits.{xor, zeros}
use Rattle.stage.specs.Xors.{length_xor_same, xor-append, xor_self}
use Rattle.tail_biting.specs.Coding.{stream, taps_of, coded}
use Rattle.tail_biting.specs.Streams.{stream_none, stream_more, stream_turned}

-- forty ones code to 120 ones
pub forty_ones : coded (replicate 40 1) ≡ replicate 120 1
unfolding stream coded
forty_ones = refl

-- seven bits, 1 at t alone
abbrev marked : ℕ → List ℕ
marked t = zeros t ++ (1 ∷ zeros (6 - t))

length_marked : (t : ℕ) → t ≤ 6 → length (marked t) ≡ 7
length_marked t h =
    omega (arith, length-append (zeros t) (1 ∷ zeros (6 - t)), length-replicate {A = ℕ} t 0, length-replicate {A = ℕ} (6 - t) 0)

abbrev marks : List ℕ → List ℕ
marks [] = zeros 7
marks (t ∷ ts) = xor (marked t) (marks ts)

length-marks : (ts : List ℕ) → AllByRecursion (λ t. t ≤ 6) ts → length (marks ts) ≡ 7
length-marks [] h = refl
length-marks (t ∷ ts) h =
    let l = length_marked t h.0 in
    length_xor_same (marked t) (marks ts) (l ∙ sym (length-marks ts h.1)) ∙ l

turned_at : (m t j : ℕ) → j ≤ m → m - j ≡ t → drop (suc j) (1 ∷ zeros m) ++ take (suc j) (1 ∷ zeros m) ≡ zeros t ++ (1 ∷ zeros j)
turned_at m t j h e =
    ap₂ (λ (x y : List ℕ). x ++ (1 ∷ y)) (drop-replicate j m 0 ∙ ap zeros e) (take-replicate j m 0 h)

lone_turned : (n t : ℕ) → 7 ≤ n → t ≤ 6 → stream (t ∷ []) (1 ∷ zeros (n - 1)) ≡ marked t ++ zeros (n - 7)
lone_turned n t h near =
    let l = length-replicate {A = ℕ} (n - 1) 0 in
    let at : length (1 ∷ zeros (n - 1)) - t ≡ suc (6 - t + (n - 7)) = omega arith in
    stream_turned t (1 ∷ zeros (n - 1)) (omega arith)
    ∙ ap (λ (k : ℕ). drop k (1 ∷ zeros (n - 1)) ++ take k (1 ∷ zeros (n - 1))) at
    ∙ turned_at (n - 1) t (6 - t + (n - 7)) (omega arith) (omega arith)
    ∙ sym (append_assoc (zeros t) (1 ∷ zeros (6 - t)) (zeros (n - 7))
    ∙ ap (λ (x : List ℕ). zeros t ++ (1 ∷ x)) (replicate-append-replicate (6 - t) (n - 7) 0))

-- a lone 1 at bit 0 sets a stream at its taps
lone_stream : (n : ℕ) (ts : List ℕ) → 7 ≤ n → AllByRecursion (λ t. t ≤ 6) ts → stream ts (1 ∷ zeros (n - 1)) ≡ marks ts ++ zeros (n - 7)
lone_stream n [] h near =
    let l : length (1 ∷ zeros (n - 1)) ≡ 7 + (n - 7) = omega (arith, length-replicate {A = ℕ} (n - 1) 0) in
    stream_none (1 ∷ zeros (n - 1)) ∙ ap zeros l ∙ sym (replicate-append-replicate 7 (n - 7) 0)
lone_stream n (t ∷ ts) h near =
    stream_more t ts (1 ∷ zeros (n - 1))
    ∙ ap₂ xor (lone_turned n t h near.0) (lone_stream n ts h near.1)
    ∙ xor-append (marked t) (zeros (n - 7)) (marks ts) (zeros (n - 7)) (length_marked t near.0 ∙ sym (length-marks ts near.1))
    ∙ ap (λ (x : List ℕ). marks (t ∷ ts) ++ x) (xor_self (zeros (n - 7)) ∙ ap zeros (length-replicate (n - 7) 0))

-- a lone 1 at bit 0 sets stream 0 at 0, 2, 3, 5 and 6
pub lone_one : (n : ℕ) → 7 ≤ n → stream (taps_of 0) (1 ∷ zeros (n - 1)) ≡ (1 ∷ 0 ∷ 1 ∷ 1 ∷ 0 ∷ 1 ∷ 1 ∷ []) ++ zeros (n - 7)
lone_one n h = lone_stream n (taps_of 0) h (omega arith)
