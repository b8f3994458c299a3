use Rattle.dsa_expand.proofs.expansion.has_friendly.Goals as goal
use Rattle.std.proofs.Common.{rules, ◌≡◌, ◌∙◌}
use Rattle.std.proofs.lemmas.Iterator.{YieldsList-from_slice, Search.{any_from_yields_List}}
use Rattle.std.specs.List.{list_any}
use Rattle.serde_json.specs.{View.{view}, declared.value.Value.{Value}}
use Rattle.dsa_expand.specs.Steps.{is_friendly}
use Rattle.dsa_expand.proofs.Lists.{any_map}
use borrow.Author.Tests.{tests}

pub returns : goal.returns
returns c =
    let any : c.any.result ≡ list_any (λ (step : Value). is_friendly (view step)) c.args.steps.now =
    any_from_yields_List (λ (step : Value). is_friendly (view step)) _ _ c.any.result
    c.any.ensures.ran (YieldsList-from_slice c.args.steps.now cc) (λ x b q k. search (rules, tests)) in
    any ∙ any_map view is_friendly c.args.steps.now
