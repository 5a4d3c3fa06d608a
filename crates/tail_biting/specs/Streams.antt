-- Streams of a block: their bits, what they are of an exclusive-or, and how two of them give the block back. Assumes nothing.
use Rattle.std.specs.Prelude.{◌≡◌, ℕ, zero, suc, ◌+◌, ◌-◌, ◌*◌, ◌%◌, ◌<◌, ◌≤◌, true, List, [], ◌∷◌, ◌++◌, map, length, take, drop, bit_xor, slice_index, slice_index_or, refl}
use Rattle.std.proofs.Common.{sym, ap, ap₂, ◌∙◌, inl, inr, mul-add, mul-zero, suc-mul, mod-lt, mod-eq_of_lt, arith}
use mathlib.Core.List.{map_congr_left}
use Rattle.std.proofs.Math.Nat.{mod-add-mod, add-mod_right, add-mul-mod_self_left}
use Rattle.std.specs.Int.Bits.{xor_zero_r}
use Rattle.std.proofs.lemmas.Nat.{xor_lt}
use borrow.Rule.Slice.PartMut.{put_mid}
use Rattle.std.specs.List.{range_with_len}
use Rattle.std.proofs.lemmas.Bool.{cases_lt}
use Rattle.std.proofs.lemmas.List.FromFn.{length-map-range_with_len, get_or-map-range_with_len}
use Rattle.std.proofs.lemmas.List.{ext_get_or, length-append, length-take-le, length-drop, get_or-take, get_or-drop, get_or_append_left, get_or-append_right, take_rest, at_drop_more, at_drop_all}
use Rattle.stage.specs.Bits.{binary, xor, zeros}
use Rattle.stage.specs.Xors.{slice_index-xor, length-xor, length_xor_same, xor_assoc, xor-zeros, xor_counted, bit_medial}
use Rattle.stage.proofs.Binary.{binary_from, binary-at}
use Rattle.tail_biting.specs.Coding.{behind, tapped, stream, taps_of, undo0, undo2}
use Rattle.tail_biting.specs.Adding.{added_front, added_next}
use Rattle.tail_biting.specs.Tapping.{sums, sums_same, sums_undone}

pub length-stream : (ts b : List ℕ) → length (stream ts b) ≡ length b
unfolding stream
length-stream ts b = length-map-range_with_len (tapped b ts) 0 (length b)

pub slice_index-stream : (ts b : List ℕ) (k : ℕ) → k < length b → slice_index (stream ts b) k ≡ tapped b ts k
unfolding stream
slice_index-stream ts b k h = get_or-map-range_with_len (tapped b ts) 0 (length b) k k 0 h (omega arith)

-- tap by tap
zeros_counted : (a n : ℕ) → map (λ (k : ℕ). 0) (range_with_len a n) ≡ zeros n
zeros_counted a zero = refl
zeros_counted a (suc n) = ap (λ (xs : List ℕ). 0 ∷ xs) (zeros_counted (a + 1) n)

pub stream_none : (b : List ℕ) → stream [] b ≡ zeros (length b)
unfolding stream
stream_none b = zeros_counted 0 (length b)

pub stream_more : (t : ℕ) (ts b : List ℕ) → stream (t ∷ ts) b ≡ xor (stream (t ∷ []) b) (stream ts b)
unfolding stream
stream_more t ts b =
    map_congr_left (λ k m. ap (λ (v : ℕ). bit_xor v (tapped b ts k)) (sym (xor_zero_r (slice_index b (behind (length b) k t)))))
    ∙ sym (xor_counted (tapped b (t ∷ [])) (tapped b ts) 0 (length b))

-- the position behind, where a tap does not lie past the block
behind_near : (n k t : ℕ) → t ≤ n → behind n k t ≡ (k + n - t) % n
behind_near n k zero h = ap (λ (x : ℕ). x % n) (omega (arith, mul-zero n)) ∙ sym (add-mod_right k n) ∙ ap (λ (x : ℕ). x % n) (omega arith)
behind_near n k (suc t) h =
    let e : k + n * suc t - suc t ≡ k + n - suc t + n * t = omega (arith, mul-add n t 1) in
    ap (λ (x : ℕ). x % n) e ∙ add-mul-mod_self_left (k + n - suc t) n t

behind-before : (n k t : ℕ) → t ≤ n → k < t → behind n k t ≡ n - t + k
behind-before n k t h l =
    let e : k + n - t ≡ n - t + k = omega arith in
    behind_near n k t h ∙ ap (λ (x : ℕ). x % n) e ∙ mod-eq_of_lt (omega arith)

behind-within : (n k t : ℕ) → t ≤ k → k < n → behind n k t ≡ k - t
behind-within n k t h l =
    let e : k + n - t ≡ k - t + n = omega arith in
    behind_near n k t (omega arith) ∙ ap (λ (x : ℕ). x % n) e ∙ add-mod_right (k - t) n ∙ mod-eq_of_lt (omega arith)

-- a stream at one tap is the block turned round
pub stream_turned : (t : ℕ) (b : List ℕ) → t ≤ length b → stream (t ∷ []) b ≡ drop (length b - t) b ++ take (length b - t) b
stream_turned t b h =
    let n = length b in
    let ls = length-stream (t ∷ []) b in
    let ld : length (drop (n - t) b) ≡ t = omega (arith, length-drop (n - t) b) in
    let lt : length (take (n - t) b) ≡ n - t = length-take-le (n - t) b (omega arith) in
    let la = length-append (drop (n - t) b) (take (n - t) b) in
    let one : (k : ℕ) → k < n → slice_index (stream (t ∷ []) b) k ≡ slice_index_or b (behind n k t) 0 =
    λ k l. slice_index-stream (t ∷ []) b k l ∙ xor_zero_r (slice_index b (behind n k t)) in
    ext_get_or 0 (stream (t ∷ []) b) (drop (n - t) b ++ take (n - t) b) (omega arith) (λ k l.
    let i : k < n = omega arith in
    one k i ∙ elim (cases_lt k t) [
      | inl f ↦ ap (λ (x : ℕ). slice_index b x) (behind-before n k t h f)
          ∙ sym (get_or_append_left (drop (n - t) b) (take (n - t) b) 0 k (omega arith) ∙ get_or-drop (n - t) b k 0)
      | inr f ↦ ap (λ (x : ℕ). slice_index b x) (behind-within n k t f i)
          ∙ sym (get_or-append_right (drop (n - t) b) (take (n - t) b) t k 0 ld f ∙ get_or-take (n - t) b (k - t) 0 (omega arith))
    ])

-- a block as a sequence that comes round
abbrev cyclic : List ℕ → ℕ → ℕ
cyclic b k = slice_index b (k % length b)

behind_is : (n k t : ℕ) → 0 < n → behind n k t ≡ (k + (n - 1) * t) % n
behind_is n k t h =
    let p : n ≡ suc (n - 1) = omega arith in
    let q : n * t ≡ (n - 1) * t + t = ap (λ (x : ℕ). x * t) p ∙ suc-mul (n - 1) t in
    ap (λ (x : ℕ). x % n) (omega arith)

tapped-sums : (b ts : List ℕ) (k : ℕ) → 0 < length b → tapped b ts k ≡ sums (cyclic b) (length b - 1) ts k
tapped-sums b [] k h = refl
tapped-sums b (t ∷ ts) k h = ap₂ bit_xor (ap (λ (x : ℕ). slice_index b x) (behind_is (length b) k t h)) (tapped-sums b ts k h)

sums-round : (b ts : List ℕ) (m k : ℕ) → sums (cyclic b) m ts (k % length b) ≡ sums (cyclic b) m ts k
sums-round b [] m k = refl
sums-round b (t ∷ ts) m k = ap₂ bit_xor (ap (λ (x : ℕ). slice_index b x) (mod-add-mod k (length b) (m * t))) (sums-round b ts m k)

cyclic-stream : (ts b : List ℕ) (k : ℕ) → 0 < length b → cyclic (stream ts b) k ≡ sums (cyclic b) (length b - 1) ts k
cyclic-stream ts b k h =
    ap (λ (n : ℕ). slice_index (stream ts b) (k % n)) (length-stream ts b)
    ∙ slice_index-stream ts b (k % length b) (mod-lt k h)
    ∙ tapped-sums b ts (k % length b) h
    ∙ sums-round b ts (length b - 1) k

slice_index_twice : (us ts b : List ℕ) (k : ℕ) → k < length b
    → slice_index (stream us (stream ts b)) k ≡ sums (sums (cyclic b) (length b - 1) ts) (length b - 1) us k
slice_index_twice us ts b k h =
    let l = length-stream ts b in
    let some : 0 < length b = omega arith in
    slice_index-stream us (stream ts b) k (omega arith)
    ∙ tapped-sums (stream ts b) us k (omega arith)
    ∙ ap (λ (n : ℕ). sums (cyclic (stream ts b)) (n - 1) us k) l
    ∙ sums_same (cyclic (stream ts b)) (sums (cyclic b) (length b - 1) ts) (length b - 1) us k (λ j. cyclic-stream ts b j some)

pub streams_undone : (b : List ℕ) → xor (stream undo0 (stream (taps_of 0) b)) (stream undo2 (stream (taps_of 2) b)) ≡ b
streams_undone b =
    let x = stream undo0 (stream (taps_of 0) b) in
    let y = stream undo2 (stream (taps_of 2) b) in
    let lx : length x ≡ length b = length-stream undo0 (stream (taps_of 0) b) ∙ length-stream (taps_of 0) b in
    let ly : length y ≡ length b = length-stream undo2 (stream (taps_of 2) b) ∙ length-stream (taps_of 2) b in
    let l = length_xor_same x y (lx ∙ sym ly) in
    ext_get_or 0 (xor x y) b (l ∙ lx) (λ k i.
    let h : k < length b = omega arith in
    slice_index-xor x y k
    ∙ ap₂ bit_xor (slice_index_twice undo0 (taps_of 0) b k h) (slice_index_twice undo2 (taps_of 2) b k h)
    ∙ sums_undone (cyclic b) (length b - 1) k
    ∙ ap (λ (j : ℕ). slice_index b j) (mod-eq_of_lt h))

-- the streams of an exclusive-or
tapped-xor : (a b ts : List ℕ) (k : ℕ) → length a ≡ length b → tapped (xor a b) ts k ≡ bit_xor (tapped a ts k) (tapped b ts k)
tapped-xor a b [] k e = refl
tapped-xor a b (t ∷ ts) k e =
    let l = length_xor_same a b e in
    ap₂ bit_xor
    (slice_index-xor a b (behind (length (xor a b)) k t)
    ∙ ap₂ (λ (m n : ℕ). bit_xor (slice_index a (behind m k t)) (slice_index b (behind n k t))) l (l ∙ e))
    (tapped-xor a b ts k e)
    ∙ bit_medial (slice_index a (behind (length a) k t)) (slice_index b (behind (length b) k t)) (tapped a ts k) (tapped b ts k)

pub stream-xor : (ts a b : List ℕ) → length a ≡ length b → stream ts (xor a b) ≡ xor (stream ts a) (stream ts b)
unfolding stream
stream-xor ts a b e =
    ap (λ n. map (tapped (xor a b) ts) (range_with_len 0 n)) (length_xor_same a b e)
    ∙ map_congr_left (λ k m. tapped-xor a b ts k e)
    ∙ sym (xor_counted (tapped a ts) (tapped b ts) 0 (length a))
    ∙ ap (λ n. xor (map (tapped a ts) (range_with_len 0 (length a))) (map (tapped b ts) (range_with_len 0 n))) e

-- the streams of bits are bits
tapped-bit : (b ts : List ℕ) (k : ℕ) → 0 < length b → binary b ≡ true → tapped b ts k < 2
tapped-bit b [] k h e = omega arith
tapped-bit b (t ∷ ts) k h e =
    xor_lt 1 (slice_index b (behind (length b) k t)) (tapped b ts k)
    (binary-at b (behind (length b) k t) e (mod-lt (k + length b * t - t) h)) (tapped-bit b ts k h e)

pub binary-stream : (ts b : List ℕ) → binary b ≡ true → binary (stream ts b) ≡ true
binary-stream ts b e =
    binary_from (stream ts b) (λ k i.
    let h : k < length b = omega (arith, length-stream ts b) in
    rw (slice_index-stream ts b k h) (tapped-bit b ts k (omega arith) e))

-- a tap added in two parts
pub added_tap : (b : List ℕ) (t : ℕ) (xs p q w : List ℕ) → t ≤ length b → length xs ≡ length b
    → p ≡ xor (take t xs) (take (length b - (length b - t)) (drop (length b - t) b)) → w ≡ p ++ drop t xs
    → q ≡ xor (take (length w - t) (drop t w)) (take (length b - t) b)
    → put_mid t (length w - t) w q ≡ xor xs (stream (t ∷ []) b)
added_tap b t xs p q w h same p_is w_is q_is =
    let last = drop (length b - t) b in
    let first = take (length b - t) b in
    let ll : length last ≡ t = omega (arith, length-drop (length b - t) b) in
    let lf : length first ≡ length b - t = length-take-le (length b - t) b (omega arith) in
    let front : w ≡ xor xs last =
    w_is ∙ added_front xs last p t ll (omega arith) (p_is ∙ ap (xor (take t xs)) (take_rest b (length b - t))) in
    let lw : length w ≡ length b = omega (arith, ap length front, length-xor xs last) in
    added_next xs last first w q t (length w - t) ll (omega arith) (omega arith) front q_is
    ∙ ap (xor xs) (sym (stream_turned t b h))

-- a loop that adds one tap more
pub added_taps_more : (b ts : List ℕ) (i : ℕ) (xs ys zs : List ℕ) → i < length ts → ys ≡ xor xs (stream (slice_index ts i ∷ []) b)
    → xor xs (stream (drop i ts) b) ≡ zs → xor ys (stream (drop (i + 1) ts) b) ≡ zs
added_taps_more b ts i xs ys zs h y_is e =
    ap (λ (v : List ℕ). xor v (stream (drop (i + 1) ts) b)) y_is
    ∙ xor_assoc xs (stream (slice_index ts i ∷ []) b) (stream (drop (i + 1) ts) b)
    ∙ ap (xor xs) (sym (at_drop_more (λ (us : List ℕ). stream us b) ts i 0 h ∙ stream_more (slice_index ts i) (drop (i + 1) ts) b))
    ∙ e

pub added_taps_all : (b ts : List ℕ) (i : ℕ) (xs zs : List ℕ) → length ts ≤ i → length xs ≡ length b
    → xor xs (stream (drop i ts) b) ≡ zs → xs ≡ zs
added_taps_all b ts i xs zs h same e =
    sym (ap (xor xs) (at_drop_all (λ (us : List ℕ). stream us b) ts i h ∙ stream_none b) ∙ xor-zeros xs (length b) (omega arith)) ∙ e
