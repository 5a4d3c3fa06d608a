use Rattle.std.proofs.Common.{refl}
use Rattle.stage.specs.Paired.{paired_rule}
use Rattle.stage.proofs.pair.Pair.new.Goals as goal

pub returns : goal.returns
returns g c = record {
  parts = refl;
  ruled = paired_rule (g.met.A.Stage.lawful c.args.first) (g.met.B.Stage.lawful c.args.second);
}
