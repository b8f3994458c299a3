use Rattle.dsa_family.proofs.places.with_member.Goals as goal
use Rattle.std.proofs.Common.{ap, ◌∙◌}
use Rattle.serde_json.specs.{Data.{object, put}, View.{members_view, view}}
use Rattle.serde_json.proofs.Views.{members_view-insert_entry, view-Object}

pub returns : goal.returns
returns c =
    view-Object _
    ∙ ap object (ap members_view c.in_ok-insert.ensures.entries
    ∙ members_view-insert_entry c.args.members.entries c.in_ok-from_str.field-0 c.args.value
    ∙ ap (λ key. put key (view c.args.value) (members_view c.args.members.entries)) c.in_ok-from_str.ensures.ok)
