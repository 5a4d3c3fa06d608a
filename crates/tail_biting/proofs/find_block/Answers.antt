use Rattle.std.proofs.Common.{length}
use Rattle.tail_biting.specs.Codes.{undo_added}
use Rattle.tail_biting.proofs.find_block.Goals as goal

pub returns : goal.returns
returns c =
    undo_added c.args.word.now c.fill.new.self c.add_stream.new.out c.add_stream-2.new.out (length c.args.block.now)
    c.requires.same (c.fill.ensures.after (λ y e. e)) c.add_stream.ensures c.add_stream-2.ensures
