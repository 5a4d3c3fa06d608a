use Rattle.std.proofs.Common.{◌-◌, ◌/◌, ◌%◌, ◌^◌, ◌∙◌, arith}
use Rattle.std.proofs.lemmas.List.FromFn.{fill_by_all}
use Rattle.check_bits.proofs.Shifting.{to_bits_places}
use Rattle.check_bits.proofs.bits_of.Goals as goal

pub returns : goal.returns
returns c =
    fill_by_all (λ j. c.args.number / 2 ^ (23 - j) % 2) c.loop-i.bit-items 24 0 (omega arith) (λ k h. c.loop-i.invariant k (omega arith))
    ∙ to_bits_places c.args.number
