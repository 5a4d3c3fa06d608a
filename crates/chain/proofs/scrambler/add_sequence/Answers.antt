use Rattle.std.proofs.Common.{◌≡◌, ℕ, ◌+◌, length, get_or, set, ap, ◌∙◌, arith}
use lib.Bits.{bit_xor}
use Rattle.stage.specs.Bits.{xor}
use Rattle.gold.specs.Sequence.{gold as golden, sequence}
use Rattle.chain.specs.Scrambles.{added_none, added_more}
use Rattle.chain.proofs.scrambler.add_sequence.Goals as goal

pub loop-k-init : goal.loop-k-init
loop-k-init c =
    ((λ j. c.new-gold.ensures.bits j ∙ ap (golden c.args.seed) (omega arith)), added_none c.args.bits.now c.args.seed)

pub loop-k-preserved : goal.loop-k-preserved
loop-k-preserved c =
    let seed = c.args.seed in let k = c.loop-k.k in let bits = c.loop-k.bits in
    let next : c.next_bit.result ≡ golden seed k = c.next_bit.ensures.bit ∙ c.loop-k.invariant.0 0 ∙ ap (golden seed) (omega arith) in (
      (λ j. c.next_bit.ensures.rest j ∙ c.loop-k.invariant.0 (j + 1) ∙ ap (golden seed) (omega arith)),
      ap (λ (v : ℕ). set bits k (bit_xor (get_or bits k 0) v)) next ∙ added_more c.args.bits.now bits seed k c.loop-k-test.true c.loop-k.invariant.1,
    )

pub returns : goal.returns
returns c =
    let end : c.loop-k.k ≡ length c.args.bits.now = omega arith in
    c.loop-k.invariant.1 ∙ ap (λ (k : ℕ). xor c.args.bits.now (sequence c.args.seed k)) end
