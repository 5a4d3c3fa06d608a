use Rattle.check_bits.specs.Division.{check_bits_stand}
use Rattle.check_bits.proofs.CheckBits.new.Goals as goal

pub returns : goal.returns
returns c = check_bits_stand
