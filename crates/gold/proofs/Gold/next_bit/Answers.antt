use Rattle.std.proofs.Common.{◌≡◌, arith}
use Rattle.gold.specs.Sequence.{fresh₁, fresh₂, shifted}
use Rattle.gold.proofs.Coming.{bits_first, bits_rest}
use Rattle.gold.proofs.Masks.{low_and, low_xor}
use Rattle.gold.proofs.Gold.next_bit.Goals as goal

pub returns : goal.returns
returns c =
    let a = c.args.self.now.x1 in
    let b = c.args.self.now.x2 in
    let first : c.shift_in-self.result ≡ shifted fresh₁ a = omega (arith, simp low_xor at c.shift_in-self.ensures) in
    let second : c.shift_in-self-2.result ≡ shifted fresh₂ b = omega (arith, simp low_xor at c.shift_in-self-2.ensures) in
    record {
      bit = simp (low_and, low_xor) (omega (arith, bits_first a b));
      rest = λ k. rw (first, second) (bits_rest a b k);
    }
