-- The words of the tail-biting code, and what its loops leave in both buffers. Assumes nothing.
use Rattle.std.specs.Prelude.{◌≡◌, ℕ, ◌+◌, ◌-◌, ◌*◌, ◌<◌, ◌≤◌, Bool, true, false, List, [], ◌∷◌, ◌++◌, length, take, drop, IsTrue, ◌↔◌, ◌≢◌, refl}
use Rattle.std.specs.List.{flat_map}
use Rattle.std.proofs.Common.{get_or, sym, ap, ap₂, ◌∙◌, zero-mul, suc-mul, add-one, mul-le-mul_right, arith}
use borrow.Rule.Slice.PartMut.{put_mid}
use Rattle.std.proofs.lemmas.Bool.{false≢true}
use Rattle.std.proofs.lemmas.List.{length-append, length-take-le, length-drop, take_at, drop_at, take_rest, take-replicate, drop-replicate, append_assoc, append-nil, take_more, flat_map_more}
use Rattle.stage.specs.Bits.{binary, Bits, xor, zeros, padded}
use Rattle.stage.specs.Xors.{xor-append, xor_bits, xor_back, xor_self, zeros-xor, length_xor_same}
use Rattle.stage.proofs.Binary.{binary-append, binary-take, binary-drop}
use Rattle.stage.proofs.Padding.{front_cleared}
use Rattle.tail_biting.specs.Coding.{stream, taps_of, coded, undo0, undo2, uncoded}
use Rattle.tail_biting.specs.Adding.{added_next, xor_none}
use Rattle.tail_biting.specs.Streams.{length-stream, binary-stream, stream-xor, streams_undone}

pub length-coded : (b : List ℕ) → length (coded b) ≡ 3 * length b
unfolding coded
length-coded b =
    let s = stream (taps_of 0) b in
    let t = stream (taps_of 1) b in
    let u = stream (taps_of 2) b in
    omega (
      arith,
      length-append s (t ++ u),
      length-append t u,
      length-stream (taps_of 0) b,
      length-stream (taps_of 1) b,
      length-stream (taps_of 2) b,
    )

pub binary-coded : (b : List ℕ) → binary b ≡ true → binary (coded b) ≡ true
unfolding coded
binary-coded b e =
    let s = stream (taps_of 0) b in
    let t = stream (taps_of 1) b in
    let u = stream (taps_of 2) b in
    binary-append s (t ++ u) (binary-stream (taps_of 0) b e)
    (binary-append t u (binary-stream (taps_of 1) b e) (binary-stream (taps_of 2) b e))

pub coded-xor : (a b : List ℕ) → length a ≡ length b → coded (xor a b) ≡ xor (coded a) (coded b)
unfolding coded
coded-xor a b e =
    let at = λ (j : ℕ). stream-xor (taps_of j) a b e in
    let same = λ (j : ℕ). length-stream (taps_of j) a ∙ e ∙ sym (length-stream (taps_of j) b) in
    let s = stream (taps_of 0) in
    let t = stream (taps_of 1) in
    let u = stream (taps_of 2) in
    ap₂ (λ (x y : List ℕ). x ++ y) (at 0) (ap₂ (λ (x y : List ℕ). x ++ y) (at 1) (at 2) ∙ sym (xor-append (t a) (u a) (t b) (u b) (same 1)))
    ∙ sym (xor-append (s a) (t a ++ u a) (s b) (t b ++ u b) (same 0))

-- a block that has the word is the one that is found
pub uncoded-coded : (n : ℕ) (b : List ℕ) → length b ≡ n → uncoded n (coded b) ≡ b
unfolding coded
uncoded-coded n b l =
    let s = stream (taps_of 0) b in
    let t = stream (taps_of 1) b in
    let u = stream (taps_of 2) b in
    let ls : length s ≡ n = length-stream (taps_of 0) b ∙ l in
    let lt : length t ≡ n = length-stream (taps_of 1) b ∙ l in
    let lst : length (s ++ t) ≡ 2 * n = omega (arith, length-append s t) in
    ap₂ (λ (x y : List ℕ). xor (stream undo0 x) (stream undo2 y))
    (take_at s (t ++ u) n ls)
    (ap (drop (2 * n)) (sym (append_assoc s t u)) ∙ drop_at (s ++ t) u (2 * n) lst)
    ∙ streams_undone b

pub coded_apart : (n : ℕ) (a b : List ℕ) → length a ≡ n → length b ≡ n → coded a ≡ coded b → a ≡ b
coded_apart n a b p q e = sym (uncoded-coded n a p) ∙ ap (uncoded n) e ∙ uncoded-coded n b q

module _ (n : ℕ) (w : List ℕ) (l : length w ≡ 3 * n) where
  front_long : length (stream undo0 (take n w)) ≡ n
  front_long = length-stream undo0 (take n w) ∙ length-take-le n w (omega arith)

  last_long : length (stream undo2 (drop (2 * n) w)) ≡ n
  last_long = length-stream undo2 (drop (2 * n) w) ∙ omega (arith, length-drop (2 * n) w)

  pub length-uncoded : length (uncoded n w) ≡ n
  length-uncoded = length_xor_same (stream undo0 (take n w)) (stream undo2 (drop (2 * n) w)) (front_long ∙ sym last_long) ∙ front_long

  pub uncoded_bits : binary w ≡ true → Bits n (uncoded n w)
  uncoded_bits e =
      xor_bits n (stream undo0 (take n w)) (stream undo2 (drop (2 * n) w))
      (front_long, binary-stream undo0 (take n w) (binary-take n w e))
      (last_long, binary-stream undo2 (drop (2 * n) w) (binary-drop (2 * n) w e))

-- streams added one after the other, to the parts that begin at j * length b
module _ (b : List ℕ) where
  abbrev pub streams : List (List ℕ) → List ℕ
  streams tss = flat_map (λ ts. stream ts b) tss

  length-streams : (tss : List (List ℕ)) → length (streams tss) ≡ length tss * length b
  length-streams [] = sym (zero-mul (length b))
  length-streams (ts ∷ tss) =
      omega (arith, length-append (stream ts b) (streams tss), length-stream ts b, length-streams tss, suc-mul (length tss) (length b))

  pub streams_more : (tss : List (List ℕ)) (j : ℕ) (w w1 part : List ℕ) → j < length tss → length w ≡ length tss * length b
      → w1 ≡ xor w (streams (take j tss))
      → part ≡ xor (take ((j + 1) * length b - j * length b) (drop (j * length b) w1)) (stream (get_or tss j []) b)
      → put_mid (j * length b) ((j + 1) * length b - j * length b) w1 part ≡ xor w (streams (take (j + 1) tss))
  streams_more tss j w w1 part h long w1_is part_is =
      let n = length b in
      let ts = get_or tss j [] in
      let next : (j + 1) * n ≡ j * n + n = ap (λ m. m * n) (add-one j) ∙ suc-mul j n in
      let room : (j + 1) * n ≤ length tss * n = mul-le-mul_right n (omega arith) in
      added_next w (streams (take j tss)) (stream ts b) w1 part (j * n) ((j + 1) * n - j * n)
      (length-streams (take j tss) ∙ ap (λ m. m * n) (length-take-le j tss (omega arith)))
      (omega (arith, length-stream ts b)) (omega arith) w1_is part_is
      ∙ ap (xor w) (flat_map_more (λ ts. stream ts b) [] (take j tss) ts ∙ ap streams (sym (take_more tss j [] h)))

  pub streams-all : streams (taps_of 0 ∷ taps_of 1 ∷ taps_of 2 ∷ []) ≡ coded b
  unfolding coded
  streams-all = ap (λ us. stream (taps_of 0) b ++ (stream (taps_of 1) b ++ us)) (append-nil (stream (taps_of 2) b))

-- two streams of a word added to zeros
pub undo_added : (w f g h : List ℕ) (n : ℕ) → length w ≡ 3 * n → f ≡ zeros n → g ≡ xor f (stream undo0 (take n w))
    → h ≡ xor g (stream undo2 (take (length w - 2 * n) (drop (2 * n) w))) → h ≡ uncoded n w
undo_added w f g h n l f_is g_is h_is =
    h_is
    ∙ ap₂ (λ (x y : List ℕ). xor x (stream undo2 y))
    (g_is ∙ ap (λ (x : List ℕ). xor x (stream undo0 (take n w))) f_is
    ∙ zeros-xor n (stream undo0 (take n w)) (omega (arith, front_long n w l)))
    (take_rest w (2 * n))

-- the word of a block added to zeros
pub encoded : (n : ℕ) (work p z r : List ℕ) → 3 * n ≤ length work → p ≡ take n work → z ≡ zeros (length work)
    → r ≡ xor (take (3 * n) z) (coded p) → r ++ drop (3 * n) z ≡ padded (coded (take n work)) (length work)
encoded n work p z r room p_is z_is r_is =
    let word = coded (take n work) in
    let long : length word ≡ 3 * n = omega (arith, length-coded (take n work), length-take-le n work (omega arith)) in
    let zeroed : take (3 * n) z ≡ zeros (3 * n) = ap (take (3 * n)) z_is ∙ take-replicate (3 * n) (length work) 0 room in
    let new : r ≡ word = r_is ∙ ap₂ (λ x y. xor x (coded y)) zeroed p_is ∙ zeros-xor (3 * n) word (omega arith) in
    ap₂ (λ x y. x ++ y) new
    (ap (drop (3 * n)) z_is ∙ drop-replicate (3 * n) (length work) 0 ∙ ap (λ k. zeros (length work - k)) (sym long))

-- the word of the block that was found, added to the word
module _ (n m : ℕ) (work s r : List ℕ) (room : 3 * n ≤ length work) (m_is : m ≡ n) (s_is : s ≡ uncoded m (take (3 * n) work))
    (r_is : r ≡ xor (take (3 * n) work) (coded s)) (z : Bool) (z_is : IsTrue z ↔ (r ≡ zeros (length r))) where
  abbrev word : List ℕ
  word = take (3 * n) work

  abbrev block : List ℕ
  block = uncoded n (take (3 * n) work)

  word_long : length word ≡ 3 * n
  word_long = length-take-le (3 * n) work room

  block_long : length block ≡ n
  block_long = length-uncoded n word word_long

  same_long : length word ≡ length (coded block)
  same_long = omega (arith, word_long, length-coded block, block_long)

  found : s ≡ block
  found = s_is ∙ ap (λ k. uncoded k word) m_is

  r_sum : r ≡ xor word (coded block)
  r_sum = r_is ∙ ap (λ x. xor word (coded x)) found

  r_long : length r ≡ length word
  r_long = ap length r_sum ∙ length_xor_same word (coded block) same_long

  work_long : length (r ++ drop (3 * n) work) ≡ length work
  work_long = omega (arith, length-append r (drop (3 * n) work), length-drop (3 * n) work, r_long, word_long)

  -- nothing is left of the word: the block takes its place
  pub decoded : z ≡ true → (p w : List ℕ) → p ≡ s
      → w ≡ padded (take n (p ++ drop n (r ++ drop (3 * n) work))) (length (p ++ drop n (r ++ drop (3 * n) work)))
      → (coded block ≡ word) × (w ≡ padded block (length work))
  decoded e p w p_is w_is = (
    xor_none word (coded block) same_long (sym r_sum ∙ z_is.0 e ∙ ap zeros r_long),
    front_cleared (r ++ drop (3 * n) work) p w n n refl (ap length (p_is ∙ found) ∙ block_long) (omega (arith, work_long)) w_is
        ∙ ap₂ padded (p_is ∙ found) work_long,
  )

  -- something is left: what was added is added again
  pub not_decoded : z ≡ false → (q w : List ℕ) → q ≡ xor r (coded s)
      → w ≡ padded (take (3 * n) (q ++ drop (3 * n) work)) (length (q ++ drop (3 * n) work))
      → (coded block ≢ word) × (w ≡ padded word (length work))
  not_decoded e q w q_is w_is =
      let back : q ≡ word =
      q_is ∙ ap₂ (λ x y. xor x (coded y)) r_sum found ∙ xor_back word (coded block) (omega (arith, same_long)) in (
        (λ same. false≢true (sym e ∙ z_is.1 (r_sum ∙ ap (xor word) same ∙ xor_self word ∙ ap zeros (sym r_long)))),
        front_cleared work q w (3 * n) (3 * n) refl (ap length back ∙ word_long) (omega arith) w_is ∙ ap (λ x. padded x (length work)) back,
      )
