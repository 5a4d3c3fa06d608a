-- The numbers of the refusals of parked ends, cells and terminals. Assumes nothing.
use Rattle.std.specs.Prelude.{ℕ}
use Rattle.air.specs.declared.fault.ParkFault.{ParkFault}
use Rattle.air.specs.declared.fault.ParkFault.TheVariants.{Identity, Frame, Subframe}
use Rattle.air.specs.declared.fault.EndFault.{EndFault}
use Rattle.air.specs.declared.fault.EndFault.TheVariants.{ShortBuffer, Grant, Pending, WordLength, Chain, GridSize, ShortBlock, NoPair, NoGrant}
use Rattle.calendar.specs.Grants as grants

abbrev pub park_number : ParkFault → ℕ
park_number Identity = 1
park_number Frame = 2
park_number Subframe = 3

abbrev pub end_number : EndFault → ℕ
end_number ShortBuffer = 4
end_number (Grant f) = grants.fault_number f
end_number Pending = 14
end_number WordLength = 15
end_number (Chain f) = 16
end_number GridSize = 17
end_number ShortBlock = 18
end_number NoPair = 19
end_number NoGrant = 20
