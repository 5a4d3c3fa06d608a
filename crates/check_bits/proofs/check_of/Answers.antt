use Rattle.std.proofs.Common.{rules, ◌∙◌}
use Rattle.std.proofs.lemmas.Fn.{fold_over, fronts}
use Rattle.std.proofs.lemmas.Iterator.{YieldsList-from_slice}
use Rattle.check_bits.proofs.Shifting.{Registered, registered_none, registered_more}
use Rattle.check_bits.proofs.check_of.Goals as goal

pub returns : goal.returns
unfolding Registered
returns c =
    let bits = c.args.block.now in
    c.bits_of.ensures
    ∙ fold_over fronts (λ y. y.now) _ Registered _
    (λ bits a x b f' j called. (registered_more bits a x.now b (search rules) j, search rules))
    c.iter.result bits 0 c.fold-register.result (YieldsList-from_slice bits cc).runs registered_none c.fold-register.ensures.ran c.requires
