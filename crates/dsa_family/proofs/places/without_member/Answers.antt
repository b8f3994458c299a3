use Rattle.dsa_family.proofs.places.without_member.Goals as goal
use Rattle.std.proofs.Common.{ap, ◌∙◌}
use Rattle.serde_json.specs.{Data.{object}, View.{members_view}}
use Rattle.serde_json.proofs.Views.{view-Object}
use Rattle.dsa_family.proofs.Sets.{without-removed}

pub returns : goal.returns
returns c = view-Object _ ∙ ap object (ap members_view c.remove.ensures.entries ∙ without-removed _ c.args.members.entries)
