use Rattle.std.proofs.Common.{inl, arith}
use Rattle.interleaver.proofs.Columns.{place, walk_long, walk_starts, walk_below, write_more, written_all}
use Rattle.interleaver.proofs.Matrix.deinterleave.Goals as goal

pub loop-k-init : goal.loop-k-init
loop-k-init c =
    rw (c.into_iter-k-iterator.ensures.into_iter_gives, c.enumerate-k-items.ensures.source, c.enumerate-k-items.ensures.count) (
      (tt, tt, inl (omega (arith, walk_long c.args.self.bits _ c.places.ensures))),
      tt,
      walk_starts c.args.self.bits (place c.args.self.bits) (λ j. j) _ c.args.work.now _ c.places.ensures,
    )

pub copy_bit-requires : goal.copy_bit-requires
copy_bit-requires c =
    let low = walk_below c.args.self.bits _ _ _ _ _ _ _ _ (c.in-Some.ensures.steps) (place c.args.self.bits) (λ j. j) c.loop-k.invariant.2 in
    record { source = omega arith; target = omega arith }

pub loop-k-preserved : goal.loop-k-preserved
loop-k-preserved c = (
  c.in-Some.ensures.goes.keeps,
  tt,
  rw c.copy_bit.ensures (write_more c.args.self.bits _ c.loop-k.work _ _ _ _ _ _ c.in-Some.ensures.steps (omega arith) c.loop-k.invariant.2),
)

pub returns : goal.returns
returns c =
    written_all c.args.self.bits c.args.work.now c.copy_from_slice.new.self c.args.side.now c.loop-k.work _ _
    c.copy_from_slice.ensures.after c.requires.work_holds (omega arith) c.in-None.ensures.steps.0.0 c.loop-k.invariant.2
