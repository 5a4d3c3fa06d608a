use Rattle.std.proofs.Common.{refl}
use Rattle.std.proofs.lemmas.List.{length-take-le}
use Rattle.tail_biting.specs.Codes.{decoded, not_decoded}
use Rattle.tail_biting.proofs.decode.Goals as goal

pub returns-then-not-is_zero : goal.returns-then-not-is_zero
returns-then-not-is_zero c =
    let p = not_decoded c.args.n _ c.args.work.now c.find_block.new.block c.add_word.new.out
    c.requires.work_room (length-take-le c.args.n c.args.side.now c.requires.side_room) c.find_block.ensures c.add_word.ensures
    c.is_zero.result c.is_zero.ensures c.if-not-is_zero.true
    c.add_word-then-not-is_zero.new.out c.clear_from.new.buffer c.add_word-then-not-is_zero.ensures c.clear_from.ensures in
    record { found = tt; block = tt; fault = refl; lacking = p.0; word = p.1 }

pub returns : goal.returns
returns c =
    let p = decoded c.args.n _ c.args.work.now c.find_block.new.block c.add_word.new.out
    c.requires.work_room (length-take-le c.args.n c.args.side.now c.requires.side_room) c.find_block.ensures c.add_word.ensures
    c.is_zero.result c.is_zero.ensures c.if-not-is_zero.false
    c.copy_from_slice.new.self c.clear_from-2.new.buffer c.copy_from_slice.ensures.after c.clear_from-2.ensures in
    record { found = p.0; block = p.1; fault = tt; lacking = tt; word = tt }
