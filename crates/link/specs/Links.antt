-- What a link in memory stands for. Assumes nothing.
use Rattle.std.specs.Prelude.{ℕ, List, length}
use Rattle.stage.specs.Bits.{zeros}
use Rattle.stage.specs.Meaning.{Meaning}
use Rattle.air.specs.CellViews.{cell_of}
use Rattle.air.specs.TerminalViews.{terminal_of}
use Rattle.link.specs.declared.driver.Link.{Link}
use Rattle.link.specs.Following.{LinkState, Buffers}

abbrev pub link_of : {S P : Type 0} → (S → Meaning) → Link S P → LinkState
link_of meaning l = record { cell = cell_of meaning l.cell; terminal = terminal_of meaning l.terminal }

-- a terminal hears in a call's buffers, and in the link's block buffer
abbrev pub hears_in : List ℕ → List ℕ → List ℕ → Buffers
hears_in work side block = record { work = work; side = side; block = block }

-- the terminal that follows hears in the call's own buffers, which the cell has zeroed, and in the link's block buffer
abbrev pub heard_in : List ℕ → List ℕ → List ℕ → Buffers
heard_in work side block = hears_in (zeros (length work)) (zeros (length side)) block
