-- The scrambler adds the pseudo-random sequence of the seed. Assumes nothing.
use Rattle.std.specs.Prelude.{true, cond, ◌&&◌}
use Rattle.stage.specs.Meaning.{Meaning}
use Rattle.gold.specs.Sequence.{sequence}
use Rattle.stage.specs.Ranges.{within}

abbrev pub scrambling : Meaning
scrambling = record {
  size = λ n e. cond (within n && within e) n 0;
  image = λ n e b. b;
  offset = λ n e seed. sequence seed n;
  covers = λ n e. true;
}
