use Rattle.tail_biting.specs.Codes.{encoded}
use Rattle.tail_biting.proofs.encode.Goals as goal

pub returns : goal.returns
returns c =
    encoded c.args.n c.args.work.now c.copy_from_slice.new.self c.fill.new.self c.add_word.new.out
    c.requires.work_room c.copy_from_slice.ensures.after (c.fill.ensures.after (λ y e. e)) c.add_word.ensures
