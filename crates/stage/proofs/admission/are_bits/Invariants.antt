use Rattle.std.proofs.Common.{◌≡◌, ◌<◌}
use Rattle.std.specs.Slice.Iter.{chunks_rest, chunks_size}
use Rattle.stage.specs.Bits.{binary}
use Rattle.stage.proofs.admission.are_bits.Given as goal

abbrev pub invariant-loop-part : goal.invariant-loop-part
invariant-loop-part l = (0 < chunks_size l.part-iterator) × (binary l.bytes ≡ binary (chunks_rest l.part-iterator))
