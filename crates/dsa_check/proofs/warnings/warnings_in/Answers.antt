use Rattle.dsa_check.proofs.warnings.warnings_in.Goals as goal
use Rattle.std.specs.List.{AllByRecursion}
use Rattle.serde_json.specs.View.{view}
use Rattle.dsa_scenario.specs.declared.faults.ScenarioFault.TheVariants.{BadDocument, BadCaps}
use Rattle.dsa_check.specs.Warnings.{IsOfPart, IsPlacedAt, IsPlaceIn, HasPlace}
use Rattle.dsa_check.proofs.{Told.{appends_both, appends_weaker, appends_items, appended_first}, Warned.{placed_as}}

pub returns-clause-placed : goal.returns-clause-placed
returns-clause-placed c =
    let bytes = c.args.bytes.now in
    let d = view c.args.document.now in
    let P = HasPlace bytes d in
    let own = appends_weaker (IsOfPart BadDocument) P (placed_as bytes d BadDocument (λ f h. h.1)) _ _
    c.in_ok-warn_of_keys.ensures.placed in
    let inside = appends_weaker (IsOfPart BadCaps) P (placed_as bytes d BadCaps (λ f h. h.1)) _ _
    c.in_ok-warn_of_caps.ensures.placed in
    appended_first (AllByRecursion P) _ _ c.new-warnings.ensures.items
    (appends_both P _ _ _ (appends_both P _ _ _ own inside)
    (appends_items (IsPlacedAt bytes) (λ finding. IsPlaceIn bytes d finding.place) d _ c.items_of.ensures.items
    (λ finding i h. h) _ _ c.in_ok-warn_of_items.ensures.placed))
