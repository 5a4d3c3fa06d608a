use Rattle.check_bits.proofs.Shifting.{step_none, step_one}
use Rattle.check_bits.proofs.shift_in.Goals as goal

pub returns-then-top-eq1 : goal.returns-then-top-eq1
returns-then-top-eq1 c is_bit = step_one c.args.register c.args.bit is_bit c.if-top-eq1.true

pub returns-else-top-eq1 : goal.returns-else-top-eq1
returns-else-top-eq1 c is_bit = step_none c.args.register c.args.bit is_bit c.if-top-eq1.false
