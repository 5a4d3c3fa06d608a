-- What a generator still has to give. Assumes nothing.
use Rattle.std.specs.Prelude.{ℕ, ◌+◌, ◌%◌}
use Rattle.gold.specs.declared.Gold.{Gold}
use Rattle.gold.specs.Sequence.{bit, fresh₁, fresh₂, window}

-- bit k of the bits to come, the registers being windows of the two sequences
unfoldable pub bits_of : Gold → ℕ → ℕ
bits_of g k = (bit (window fresh₁ g.x1 k) 0 + bit (window fresh₂ g.x2 k) 0) % 2
