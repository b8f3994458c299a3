use Rattle.dsa_expand.proofs.steps.strict_step.Goals as goal
use Rattle.std.proofs.Common.{sym, Bor, List, option_map}
use Rattle.serde_json.specs.View.{view}
use Rattle.dsa_expand.specs.{declared.steps.GivenName.{GivenName}, Members.{known_as}}
use Rattle.dsa_expand.proofs.Shallow.{strict_shallow}

pub object_with-requires : goal.object_with-requires
object_with-requires c =
    rw c.as_slice.ensures.value
    (strict_shallow 126 (known_as (option_map (λ (g : Bor (List GivenName)). g.now) c.args.known)) c.in-Some.kind
    (view c.args.step.now) _ c.requires (sym (rw c.in-Some-2.is at c.in_ok-members.ensures)))
