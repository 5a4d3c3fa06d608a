use Rattle.std.proofs.Common.{refl}
use Rattle.tail_biting.specs.Streams.{added_tap}
use Rattle.tail_biting.proofs.add_tap.Goals as goal

pub returns : goal.returns
returns c =
    added_tap c.args.block.now c.args.t c.args.out.now c.add_bits.new.out c.add_bits-2.new.out _
    c.requires.near c.requires.same c.add_bits.ensures refl c.add_bits-2.ensures
