use Rattle.chain.specs.Scrambles.{added_front}
use Rattle.chain.proofs.scrambler.scramble.Goals as goal

pub returns-clause-work : goal.returns-clause-work
returns-clause-work c =
    added_front c.args.work.now c.add_sequence.new.bits c.clear_from.new.buffer c.args.seed c.args.n c.requires c.add_sequence.ensures c.clear_from.ensures
