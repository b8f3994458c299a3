use Rattle.dsa_expand.proofs.descriptors.has_only_fields.Goals as goal
use Rattle.std.proofs.Common.{◌∙◌}
use Rattle.serde_json.specs.View.{view}
use Rattle.dsa_expand.specs.Descriptors.{is_field}
use Rattle.dsa_expand.proofs.Lists.{keys_pass}

pub loop-key-init : goal.loop-key-init
loop-key-init c =
    let all = c.into_iter-key-iterator.ensures.into_iter_gives ∙ c.keys-key-items.ensures.rest in
    keys_pass (view c.args.object.now) _ _ is_field c.in-Some.ensures all
