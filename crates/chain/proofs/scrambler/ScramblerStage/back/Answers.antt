use Rattle.chain.specs.Scrambles.{scramble_back}
use Rattle.chain.proofs.scrambler.ScramblerStage.back.Goals as goal

pub returns : goal.returns
returns c =
    scramble_back c.args.n c.args.s c.args.work.now c.args.side.now c.length.result c.length.ensures
    c.scramble.new.work c.scramble.new.side c.scramble.ensures.work c.scramble.ensures.side
    c.covers.result c.covers.ensures c.in_ok-admit_back.ensures
