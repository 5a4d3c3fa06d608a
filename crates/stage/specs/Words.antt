-- A stage's refusals in words. Assumes nothing.
use Rattle.std.specs.Prelude.{ℕ, List, codes}
use Rattle.stage.specs.declared.fault.StageFault.{StageFault}
use Rattle.stage.specs.declared.fault.StageFault.TheVariants.{ShortBuffer, BadSetting, NoWord, NotCovering, NotBits, NoBlock}

abbrev pub fault_words : StageFault → List ℕ
fault_words ShortBuffer = codes "work or side buffer short"
fault_words BadSetting = codes "setting out of range"
fault_words NoWord = codes "no word at this length"
fault_words NotCovering = codes "the chain does not cover, so words do not tell blocks apart"
fault_words NotBits = codes "a byte is neither 0 nor 1"
fault_words NoBlock = codes "no block has this word"
