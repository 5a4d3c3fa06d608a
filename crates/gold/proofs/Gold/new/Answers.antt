use Rattle.std.proofs.Common.{◌∙◌}
use Rattle.gold.proofs.Coming.{bits_start}
use Rattle.gold.proofs.Recurrence.{standard}
use Rattle.gold.proofs.Gold.new.Goals as goal

pub returns : goal.returns
returns c = record { bits = λ k. c.skip.ensures k ∙ bits_start c.args.seed k; standard = standard }
