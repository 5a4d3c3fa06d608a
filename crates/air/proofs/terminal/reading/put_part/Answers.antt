use Rattle.std.proofs.Common.{ℕ, ◌+◌, ◌-◌, List, ◌++◌, length, take, ap, ◌∙◌, arith}
use Rattle.std.proofs.lemmas.Slice.{take-put_mid}
use Rattle.air.proofs.terminal.reading.put_part.Goals as goal

pub returns : goal.returns
returns c =
    let from = c.args.from in
    let table = c.args.table.now in
    let ys = c.copy_from_slice.new.self in
    take-put_mid from (from + 320 - from) table ys (from + 320)
    (omega (arith, ap length c.copy_from_slice.ensures.after, c.told-bits)) (omega (arith, c.told-table, c.requires))
    ∙ ap (λ (v : List ℕ). take from table ++ v) c.copy_from_slice.ensures.after
