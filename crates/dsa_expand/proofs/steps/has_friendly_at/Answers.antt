use Rattle.dsa_expand.proofs.steps.has_friendly_at.Goals as goal
use Rattle.std.proofs.Common.{rules, ◌≡◌, ◌∙◌}
use Rattle.std.proofs.lemmas.Iterator.{YieldsList-from_slice, Search.{any_from_yields_List}}
use Rattle.std.specs.List.{list_any}
use Rattle.serde_json.specs.View.{view}
use Rattle.dsa_scenario.specs.{declared.fields.Field.{Field}, Fields.{Row, row_of_field}}
use Rattle.dsa_expand.specs.Steps.{is_friendly_at}
use Rattle.dsa_expand.proofs.Lists.{any_map}
use borrow.Author.Tests.{tests}

pub returns : goal.returns
returns c =
    let any : c.any.result ≡ list_any (λ (field : Field). is_friendly_at (view c.args.step.now) field.name.now)
    c.args.fields.now =
    any_from_yields_List (λ (field : Field). is_friendly_at (view c.args.step.now) field.name.now) _ _ c.any.result
    c.any.ensures.ran (YieldsList-from_slice c.args.fields.now cc) (λ x b q k. search (rules, tests)) in
    any ∙ any_map row_of_field (λ (row : Row). is_friendly_at (view c.args.step.now) row.0) c.args.fields.now
