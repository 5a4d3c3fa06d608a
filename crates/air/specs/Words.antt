-- The refusals and the answers of parked ends, cells and terminals in words. Assumes nothing.
use Rattle.std.specs.Prelude.{ℕ, ◌++◌, List, codes, decimal}
use Rattle.calendar.specs.Words as grants
use Rattle.stage.specs.Words as stages
use Rattle.air.specs.declared.answers.Airing.{Airing}
use Rattle.air.specs.declared.answers.Airing.TheVariants as airings
use Rattle.air.specs.declared.answers.Outcome.{Outcome}
use Rattle.air.specs.declared.answers.Outcome.TheVariants as outcomes
use Rattle.air.specs.declared.fault.ParkFault.{ParkFault}
use Rattle.air.specs.declared.fault.ParkFault.TheVariants.{Identity, Frame, Subframe}
use Rattle.air.specs.declared.fault.EndFault.{EndFault}
use Rattle.air.specs.declared.fault.EndFault.TheVariants.{ShortBuffer, Grant, Pending, WordLength, Chain, GridSize, ShortBlock, NoPair, NoGrant}

abbrev pub park_words : ParkFault → List ℕ
park_words Identity = codes "identity above 503"
park_words Frame = codes "frame above 1,023"
park_words Subframe = codes "subframe above 9"

abbrev pub end_words : EndFault → List ℕ
end_words ShortBuffer = codes "work or side buffer short"
end_words (Grant f) = grants.fault_words f
end_words Pending = codes "a grant is pending"
end_words WordLength = codes "the chain has a word, but not one as long as the grant asks"
end_words (Chain f) = codes "chain refused: " ++ stages.fault_words f
end_words GridSize = codes "the grid has not 168 points"
end_words ShortBlock = codes "block buffer shorter than the block of the pending grant"
end_words NoPair = codes "a data point that is due to be read is no pair"
end_words NoGrant = codes "there is no grant"

abbrev pub airing_words : Airing → List ℕ
airing_words airings.Closed = codes "closed"
airing_words airings.Idle = codes "idle"
airing_words (airings.Data part owed) = codes "data part " ++ decimal part ++ codes ", owed " ++ decimal owed

abbrev pub outcome_words : Outcome → List ℕ
outcome_words outcomes.Closed = codes "closed"
outcome_words outcomes.Idle = codes "idle"
outcome_words (outcomes.Part p) = codes "part " ++ decimal p
outcome_words outcomes.Block = codes "block"
outcome_words outcomes.Spoiled = codes "spoiled"
outcome_words outcomes.Repeat = codes "repeat"
