-- The calls of a pair, from those of its stages. Assumes nothing.
use Rattle.std.proofs.Common.{◌≡◌, ℕ, ◌<◌, ◌≤◌, Bool, true, false, List, length, take, None, Ok, Err, Result, sym, refl, ap, ◌∙◌, subst, ap₂, arith}
use lib.ListN.{length-replicate}
use Rattle.std.proofs.lemmas.Bool.{and_parts}
use Rattle.std.proofs.lemmas.List.{length-take-le}
use Rattle.stage.specs.declared.setting.Setting.{Setting}
use Rattle.stage.specs.declared.fault.StageFault.{StageFault}
use Rattle.stage.specs.declared.fault.StageFault.TheVariants.{NotBits}
use Rattle.stage.specs.Bits.{binary, Bits, zeros, padded}
use Rattle.stage.specs.Meaning.{Meaning, Lawful, word, paired}
use Rattle.stage.specs.Refusals.{first_fault, opening_tests}
use Rattle.stage.specs.Calls.{word_length, covering, Accepted, Kept, HasWord, Undone, Forward, Back}
use Rattle.stage.proofs.Opened.{Open, admitted, open_seeded, open_work, open_length, open_covering}
use Rattle.stage.proofs.Padding.{length-padded, take-padded}
use Rattle.stage.proofs.Past.{same-room, forward_accepted, forward_refused, accept_forward, back_undone, back_refused, undo_back, refuse_back}
use Rattle.stage.specs.Paired.{word_bits, word_apart, first_some, word-paired, paired_lawful}
use Rattle.stage.proofs.Framed.{one_block}

-- an accepted call does not fail, and a failed one is not accepted
pub ok_err : {A : Type 0} (k : ℕ) (f : StageFault) → ◌≡◌ {A = Result ℕ StageFault} (Ok k) (Err f) → A
ok_err k f e = let z : ◌≡◌ {A = ℕ} 0 1 = cc in let y : ⊥ = omega arith in absurd y

module _ {a b : Meaning} (la : Lawful a) (lb : Lawful b) (n : ℕ) (s : Setting) (work side : List ℕ) (o : Open (paired a b) n s work side) where
  some_first : 0 < a.size n s.output
  some_first = first_some la lb n s.output o.some

  open_first : Open a n s work side
  open_first = record { roomy = o.roomy; in_range = o.in_range; some = some_first }

  -- the first n bytes
  block_bits : binary (take n work) ≡ true → Bits n (take n work)
  block_bits e =
      let fits = la.sized n s.output some_first in
      let room = open_work o in
      (length-take-le n work (omega (arith, fits, room)), e)

  open_second_at : (w d : List ℕ) → length w ≡ length work → length d ≡ length side → Open b (a.size n s.output) s w d
  open_second_at w d p q = record { roomy = same-room work side w d p q o.roomy; in_range = o.in_range; some = o.some }

  open_first_at : (w d : List ℕ) → length w ≡ length work → length d ≡ length side → Open a n s w d
  open_first_at w d p q = record { roomy = same-room work side w d p q o.roomy; in_range = o.in_range; some = some_first }

  -- a buffer that an accepted call leaves
  left_work : (x w : List ℕ) (k : ℕ) → length x ≡ k → k ≤ 7680 → w ≡ padded x (length work) → length w ≡ length work
  left_work x w k p q e = ap length e ∙ length-padded x (length work) (let room = open_work o in omega arith)

  left_side : (d : List ℕ) → d ≡ zeros (length side) → length d ≡ length side
  left_side d e = ap length e ∙ length-replicate {A = ℕ} (length side) 0

  pub pair_forward : (w1 d1 : List ℕ) (k : ℕ) → Forward a n s work side w1 d1 (Ok k) → (w2 d2 : List ℕ) (r : Result ℕ StageFault)
      → Forward b k s w1 d1 w2 d2 r → Forward (paired a b) n s work side w2 d2 r
  pair_forward w1 d1 k h w2 d2 r h2 = go (binary (take n work)) refl
    where
      go : (t : Bool) → binary (take n work) ≡ t → Forward (paired a b) n s work side w2 d2 r
      go false e = ok_err k NotBits (forward_refused open_first w1 d1 (Ok k) e h).answer
      go true e =
          let bits = block_bits e in
          let x : List ℕ = word a n s.output s.seed (take n work) in
          let xb : Bits (a.size n s.output) x = word_bits la n s.output s.seed some_first (open_seeded o) (take n work) bits in
          let acc = forward_accepted open_first w1 d1 (Ok k) e h in
          let k_is : k ≡ a.size n s.output = (let j : k ≡ length x = (let q = acc.answer in cc) in j ∙ xb.0) in
          let sz = lb.sized (a.size n s.output) s.output o.some in
          let lw : length w1 ≡ length work = left_work x w1 (a.size n s.output) xb.0 sz.1 acc.work_is in
          let ld : length d1 ≡ length side = left_side d1 acc.side_is in
          let h3 : Forward b (a.size n s.output) s w1 d1 w2 d2 r = rw k_is at h2 in
          let tk : take (a.size n s.output) w1 ≡ x = ap (take (a.size n s.output)) acc.work_is ∙ take-padded x (a.size n s.output) (length work) xb.0 in
          let acc2 = forward_accepted (open_second_at w1 d1 lw ld) w2 d2 r (ap binary tk ∙ xb.1) h3 in
          let same : word b (a.size n s.output) s.output s.seed (take (a.size n s.output) w1) ≡ word (paired a b) n s.output s.seed (take n work)
          = ap (word b (a.size n s.output) s.output s.seed) tk ∙ sym (word-paired la lb n s.output s.seed (take n work) o.some (open_seeded o) bits) in
          accept_forward o w2 d2 r e (record {
            answer = acc2.answer ∙ ap (λ u. Ok (length u)) same;
            work_is = acc2.work_is ∙ ap₂ padded same lw;
            side_is = acc2.side_is ∙ ap zeros ld;
          })

  first_covers : (paired a b).covers n s.output ≡ true → a.covers n s.output ≡ true
  first_covers cov = (and_parts (a.covers n s.output) (b.covers (a.size n s.output) s.output) cov).0

  second_covers : (paired a b).covers n s.output ≡ true → b.covers (a.size n s.output) s.output ≡ true
  second_covers cov = (and_parts (a.covers n s.output) (b.covers (a.size n s.output) s.output) cov).1

  -- the word in the work buffer
  unfoldable pub word_in : List ℕ
  word_in = take (b.size (a.size n s.output) s.output) work

  length-word_in : length word_in ≡ b.size (a.size n s.output) s.output
  unfolding word_in
  length-word_in =
      let sz = lb.sized (a.size n s.output) s.output o.some in
      let room = open_work o in
      length-take-le (b.size (a.size n s.output) s.output) work (omega (arith, sz, room))

  -- a block of the pair, by way of the first stage's word
  through : (x : List ℕ) → Bits n x
      → word b (a.size n s.output) s.output s.seed (word a n s.output s.seed x) ≡ word (paired a b) n s.output s.seed x
  through x p = sym (word-paired la lb n s.output s.seed x o.some (open_seeded o) p)

  first_word : (x : List ℕ) → Bits n x → Bits (a.size n s.output) (word a n s.output s.seed x)
  first_word x p = word_bits la n s.output s.seed some_first (open_seeded o) x p

  -- the second stage refuses
  pub pair_back_first : (paired a b).covers n s.output ≡ true → (w d : List ℕ) (f : StageFault)
      → Back b (a.size n s.output) s work side w d (Err f) → Back (paired a b) n s work side w d (Err f)
  unfolding word_in
  pair_back_first cov w d f h = go (binary word_in) refl
    where
      at : Open b (a.size n s.output) s work side
      at = open_second_at work side refl refl

      go : (t : Bool) → binary word_in ≡ t → Back (paired a b) n s work side w d (Err f)
      go false e = refuse_back o w d (Err f) cov e (back_refused at w d (Err f) (second_covers cov) e h)
      go true e =
          let u = back_undone at w d (Err f) (second_covers cov) e h in
          undo_back o w d (Err f) cov e
          ((λ x hx. u.0 (word a n s.output s.seed x) (record { bits = first_word x hx.bits; is = through x hx.bits ∙ hx.is })), u.1)

  -- what stands in both buffers once the second stage has found its block
  pub record Middle (w d : List ℕ) : Type 0 where
    pub bits : binary word_in ≡ true
    pub block : List ℕ
    pub has : HasWord b (a.size n s.output) s word_in block
    pub work_is : w ≡ padded block (length work)
    pub side_is : d ≡ zeros (length side)

  pub pair_middle : (paired a b).covers n s.output ≡ true → (w d : List ℕ) (j : ℕ)
      → Back b (a.size n s.output) s work side w d (Ok j) → Middle w d
  unfolding word_in
  pair_middle cov w d j h = go (binary word_in) refl
    where
      at : Open b (a.size n s.output) s work side
      at = open_second_at work side refl refl

      go : (t : Bool) → binary word_in ≡ t → Middle w d
      go false e = ok_err j NotBits (back_refused at w d (Ok j) (second_covers cov) e h).answer
      go true e =
          let u = back_undone at w d (Ok j) (second_covers cov) e h in
          record { bits = e; block = u.0; has = u.1.has; work_is = u.2.work_is; side_is = u.2.side_is }

  module _ (cov : (paired a b).covers n s.output ≡ true) (w d : List ℕ) (mid : Middle w d) where
    middle_work : length w ≡ length work
    middle_work =
        left_work mid.block w (a.size n s.output) mid.has.bits.0 (lb.sized (a.size n s.output) s.output o.some).1 mid.work_is

    middle_side : length d ≡ length side
    middle_side = left_side d mid.side_is

    middle_block : take (a.size n s.output) w ≡ mid.block
    middle_block =
        ap (take (a.size n s.output)) mid.work_is
        ∙ take-padded mid.block (a.size n s.output) (length work) mid.has.bits.0

    middle_undone : (w2 d2 : List ℕ) (r : Result ℕ StageFault) → Back a n s w d w2 d2 r → Undone a n s mid.block w d w2 d2 r
    middle_undone w2 d2 r h =
        subst (λ x. Undone a n s x w d w2 d2 r) middle_block
        (back_undone (open_first_at w d middle_work middle_side) w2 d2 r (first_covers cov) (ap binary middle_block ∙ mid.has.bits.1) h)

    -- the first stage finds its block
    pub pair_back_ok : (w2 d2 : List ℕ) (i : ℕ) → Back a n s w d w2 d2 (Ok i) → Back (paired a b) n s work side w2 d2 (Ok i)
    unfolding word_in
    pair_back_ok w2 d2 i h =
        let u = middle_undone w2 d2 (Ok i) h in
        let hx = u.1.has in
        undo_back o w2 d2 (Ok i) cov mid.bits (
          u.0,
          one_block (paired_lawful la lb) n s o.some (open_seeded o) cov word_in u.0 (record {
            bits = hx.bits;
            is = sym (through u.0 hx.bits) ∙ ap (word b (a.size n s.output) s.output s.seed) hx.is ∙ mid.has.is;
          }),
          record {
            answer = u.2.answer;
            work_is = u.2.work_is ∙ ap (padded u.0) middle_work;
            side_is = u.2.side_is ∙ ap zeros middle_side;
          },
        )

    module _ (w2 d2 : List ℕ) (f : StageFault) (h : Back a n s w d w2 d2 (Err f)) (w3 d3 : List ℕ) (r : Result ℕ StageFault)
        (h3 : Forward b (a.size n s.output) s w2 d2 w3 d3 r) where
      kept : Kept mid.block w d w2 d2 (Err f)
      kept = (middle_undone w2 d2 (Err f) h).1

      kept_work : length w2 ≡ length work
      kept_work =
          left_work mid.block w2 (a.size n s.output) mid.has.bits.0 (lb.sized (a.size n s.output) s.output o.some).1
          (kept.work_is ∙ ap (padded mid.block) middle_work)

      kept_side : length d2 ≡ length side
      kept_side = left_side d2 (kept.side_is ∙ ap zeros middle_side)

      kept_block : take (a.size n s.output) w2 ≡ mid.block
      kept_block =
          ap (take (a.size n s.output)) kept.work_is
          ∙ take-padded mid.block (a.size n s.output) (length w) mid.has.bits.0

      -- the second stage then makes the word again
      again : Accepted word_in w2 d2 w3 d3 r
      again =
          subst (λ x. Accepted x w2 d2 w3 d3 r) (ap (word b (a.size n s.output) s.output s.seed) kept_block ∙ mid.has.is)
          (forward_accepted (open_second_at w2 d2 kept_work kept_side) w3 d3 r (ap binary kept_block ∙ mid.has.bits.1) h3)

      pub pair_back_none : Back (paired a b) n s work side w3 d3 (Err f)
      unfolding word_in
      pair_back_none =
          undo_back o w3 d3 (Err f) cov mid.bits (
            (λ x hx.
                (middle_undone w2 d2 (Err f) h).0 x
                (record {
                  bits = hx.bits;
                  is = word_apart lb (a.size n s.output) s.output s.seed o.some (open_seeded o) (second_covers cov)
                      (word a n s.output s.seed x) mid.block (first_word x hx.bits) mid.has.bits
                      (through x hx.bits ∙ hx.is ∙ sym mid.has.is);
                })),
            record {
              answer = kept.answer;
              work_is = again.work_is ∙ ap (padded word_in) kept_work;
              side_is = again.side_is ∙ ap zeros kept_side;
            },
          )

      pub pair_back_again : {A : Type 0} (g : StageFault) → r ≡ Err g → A
      pair_back_again g e = ok_err (length word_in) g (sym again.answer ∙ e)

-- ---- `back` as the code has it: k0 and k are what it takes for the pair's word length and the first stage's

module _ {a b : Meaning} (la : Lawful a) (lb : Lawful b) (n : ℕ) (s : Setting) (work side : List ℕ) (k0 k : ℕ)
    (k0_is : k0 ≡ word_length (paired a b) n s) (passes : None ≡ first_fault (opening_tests s k0 work side))
    (k_is : k ≡ word_length a n s) (covers : true ≡ covering (paired a b) n s) where
  here : Open (paired a b) n s work side
  here = admitted (paired a b) n s work side k0 k0_is passes

  cov_here : (paired a b).covers n s.output ≡ true
  cov_here = sym (open_covering here) ∙ sym covers

  k_here : k ≡ a.size n s.output
  k_here = k_is ∙ open_length (open_first la lb n s work side here)

  pub back_stops : (w d : List ℕ) (f : StageFault) → Back b k s work side w d (Err f) → Back (paired a b) n s work side w d (Err f)
  back_stops w d f h = pair_back_first la lb n s work side here cov_here w d f (rw k_here at h)

  module _ (w d : List ℕ) (j : ℕ) (h : Back b k s work side w d (Ok j)) where
    middle : Middle la lb n s work side here w d
    middle = pair_middle la lb n s work side here cov_here w d j (rw k_here at h)

    pub back_finds : (w2 d2 : List ℕ) (i : ℕ) → Back a n s w d w2 d2 (Ok i) → Back (paired a b) n s work side w2 d2 (Ok i)
    back_finds = pair_back_ok la lb n s work side here cov_here w d middle

    module _ (w2 d2 : List ℕ) (f : StageFault) (h2 : Back a n s w d w2 d2 (Err f)) (w3 d3 : List ℕ) (r : Result ℕ StageFault)
        (h3 : Forward b k s w2 d2 w3 d3 r) where
      pub back_lacks : Back (paired a b) n s work side w3 d3 (Err f)
      back_lacks = pair_back_none la lb n s work side here cov_here w d middle w2 d2 f h2 w3 d3 r (rw k_here at h3)

      pub back_again : {A : Type 0} (g : StageFault) → r ≡ Err g → A
      back_again g e = pair_back_again la lb n s work side here cov_here w d middle w2 d2 f h2 w3 d3 r (rw k_here at h3) g e
