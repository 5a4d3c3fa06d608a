-- The refusals of a grant in words. Assumes nothing.
use Rattle.std.specs.Prelude.{ℕ, List, codes}
use Rattle.calendar.specs.declared.fault.GrantFault.{GrantFault}
use Rattle.calendar.specs.declared.fault.GrantFault.TheVariants.{Rnti, SubframeCount, Repetitions, BlockLength}

abbrev pub fault_words : GrantFault → List ℕ
fault_words Rnti = codes "RNTI not from 1 to 65,535"
fault_words SubframeCount = codes "subframe count not 1, 2, 3, 4, 5, 6, 8 or 10"
fault_words Repetitions = codes "repetitions not one of the sixteen allowed"
fault_words BlockLength = codes "block length not a multiple of 8 from 16 to 2,536"
