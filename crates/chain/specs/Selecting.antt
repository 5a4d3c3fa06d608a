-- Selection: the bits of a block are taken in a ring, as many as the setting asks. Assumes nothing.
use Rattle.std.specs.Prelude.{ℕ, ◌%◌, cond, ◌&&◌, List, map, nat_le}
use Rattle.std.specs.List.{range_with_len}
use Rattle.stage.specs.Bits.{zeros}
use Rattle.stage.specs.Gather.{gathered}
use Rattle.stage.specs.Meaning.{Meaning}
use Rattle.stage.specs.Ranges.{within}

-- bit k of the word is taken from place k modulo n
abbrev pub ring : ℕ → ℕ → List ℕ
ring n e = map (λ k. k % n) (range_with_len 0 e)

abbrev pub selecting : Meaning
selecting = record {
  size = λ n e. cond (within n && within e) e 0;
  image = λ n e b. gathered (ring n e) b;
  offset = λ n e seed. zeros e;
  covers = λ n e. nat_le n e;
}
