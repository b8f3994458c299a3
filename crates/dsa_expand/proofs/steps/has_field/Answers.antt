use Rattle.dsa_expand.proofs.steps.has_field.Goals as goal
use Rattle.std.proofs.Common.{rules, ◌≡◌, ◌∙◌}
use Rattle.std.proofs.lemmas.Iterator.{YieldsList-from_slice, Search.{any_from_yields_List}}
use Rattle.std.specs.{Prelude.{bytes_eq}, List.{list_any}}
use Rattle.dsa_scenario.specs.{declared.fields.Field.{Field}, Fields.{Row, row_of_field}}
use Rattle.dsa_expand.proofs.Lists.{any_map}
use borrow.Author.Tests.{tests}

pub returns : goal.returns
returns c =
    let any : c.any.result ≡ list_any (λ (field : Field). bytes_eq field.name.now c.args.key.now) c.args.fields.now =
    any_from_yields_List (λ (field : Field). bytes_eq field.name.now c.args.key.now) _ _ c.any.result c.any.ensures.ran
    (YieldsList-from_slice c.args.fields.now cc) (λ x b q k. search (rules, tests)) in
    any ∙ any_map row_of_field (λ (row : Row). bytes_eq row.0 c.args.key.now) c.args.fields.now
