use Rattle.dsa_expand.proofs.expansion.add_remarks.Goals as goal
use Rattle.std.proofs.Common.{◌∙◌, refl}
use Rattle.serde_json.specs.View.{view}
use Rattle.dsa_expand.proofs.Lists.{pairs_listed}

pub loop-key-init : goal.loop-key-init
loop-key-init c =
    let all = c.into_iter-key-iterator.ensures.into_iter_gives ∙ c.iter-key-items.ensures.rest in
    rw (pairs_listed (view c.args.document.now) _ _ c.in-Some.ensures all) refl
