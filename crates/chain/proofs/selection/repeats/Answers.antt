use Rattle.std.proofs.Common.{rules, ◌≡◌, ◌-◌, length, take, drop}
use Rattle.chain.specs.Rings.{ring_from_shift, shift_from_ring}
use Rattle.chain.proofs.selection.repeats.Goals as goal

pub returns : goal.returns
returns c =
    let n = c.args.n in let xs = c.args.bits.now in (
      (λ same. ring_from_shift n xs c.requires.some c.requires.within (search rules)),
      (λ round. let same : take (length xs - n) (drop n xs) ≡ take (length xs - n) xs = shift_from_ring n xs c.requires.some c.requires.within round in search rules),
    )
