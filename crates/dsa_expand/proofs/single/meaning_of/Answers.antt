use Rattle.dsa_expand.proofs.single.meaning_of.Goals as goal
use Rattle.std.proofs.Common.{Some, map, sym}
use Rattle.serde_json.specs.View.{view}
use Rattle.dsa_expand.specs.Members.{given_as}
use Rattle.dsa_expand.proofs.{Shallow.{strict_shallow}, Stuck.{unstuck_is_strict}}

pub object_with-requires : goal.object_with-requires
object_with-requires c =
    rw c.as_slice.ensures.value
    (strict_shallow 126 (Some (map given_as c.args.given.now)) c.in-Some.kind (view c.args.step.now) _ c.requires
    (sym (rw c.in-Some-2.is at c.in_ok-members.ensures)))

pub unreachable-requires : goal.unreachable-requires
unreachable-requires c =
    unstuck_is_strict (Some (map given_as c.args.given.now)) c.in-Some.kind (view c.args.step.now)
    (sym (rw c.in-None.is at c.in_ok-key.ensures)) (sym (rw c.in_default-2.is at c.in_ok-members.ensures))
