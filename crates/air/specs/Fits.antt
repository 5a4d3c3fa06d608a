-- How a chain fits a grant. Assumes nothing.
use Rattle.std.specs.Prelude.{ℕ, Bool, ◌&&◌, ◌==◌}
use Rattle.stage.specs.Meaning.{Meaning}
use Rattle.calendar.specs.declared.grant.Grant.{Grant}
use Rattle.calendar.specs.Grants.{output}

-- a chain's word length for a grant, and its mark
abbrev pub word_size : Meaning → Grant → ℕ
word_size m g = m.size g.length (output g)

abbrev pub mark : Meaning → Grant → Bool
mark m g = m.covers g.length (output g)

-- the chain has a word as long as the grant asks
abbrev pub fits : Meaning → Grant → Bool
fits m g = word_size m g == output g

-- whether a chain covers a grant with a word as long as the grant asks
abbrev pub covered : Meaning → Grant → Bool
covered m g = fits m g && mark m g
