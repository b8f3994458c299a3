use Rattle.dsa_party_check.proofs.strays.add_strays.Goals as goal
use Rattle.std.proofs.Common.{◌∙◌, refl}
use Rattle.serde_json.specs.View.{view}
use Rattle.dsa_check.proofs.Nearest.{keys_in}

pub loop-key-init : goal.loop-key-init
loop-key-init c =
    let all = c.into_iter-key-iterator.ensures.into_iter_gives ∙ c.keys-key-items.ensures.rest in
    rw (keys_in (view c.args.object.now) _ _ c.in-Some.ensures all) refl
