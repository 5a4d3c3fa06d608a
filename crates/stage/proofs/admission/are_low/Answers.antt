use Rattle.std.proofs.Common.{rules}
use Rattle.std.proofs.lemmas.Fn.{fold_over, fronts}
use Rattle.std.proofs.lemmas.Iterator.{YieldsList-from_slice}
use Rattle.stage.proofs.Binary.{Set, set_none, set_more}
use Rattle.stage.proofs.admission.are_low.Goals as goal

pub returns : goal.returns
unfolding Set
returns c =
    let bytes = c.args.bytes.now in
    fold_over fronts (λ y. y.now) _ Set _
    (λ xs a x b f' j called. (set_more xs a x.now b (search rules) j, search rules))
    c.iter.result bytes 0 c.fold.result (YieldsList-from_slice bytes cc).runs set_none c.fold.ensures.ran
