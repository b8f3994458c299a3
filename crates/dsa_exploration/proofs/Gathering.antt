-- One event more of a set-up.
use Rattle.std.proofs.Common.{◌≡◌, ◌<◌, ◌+◌, ◌∙◌, ℕ, List, [], ◌∷◌, ◌++◌, length, drop, get_or, sym, ap}
use Rattle.std.proofs.Common.{append_assoc}
use Rattle.std.proofs.lemmas.List.{drop_more}
use Rattle.std.proofs.lemmas.List.Elements.{filter_map-append}
use Rattle.std.specs.List.{filter_map}
use Rattle.dsa_book.specs.declared.event.Event.{Event}
use Rattle.dsa_scenario.specs.declared.actions.Action.{Action}
use Rattle.dsa_exploration.specs.Plan.{setup_event}

-- the event that the action at this place makes
pub one_event_more : (actions : List Action) (i : ℕ) (d : Action) (made more : List Event) → i < length actions
    → more ≡ made ++ filter_map setup_event (get_or actions i d ∷ [])
    → made ++ filter_map setup_event (drop i actions) ≡ filter_map setup_event actions
    → more ++ filter_map setup_event (drop (i + 1) actions) ≡ filter_map setup_event actions
one_event_more actions i d made more inside e so_far =
    let x = get_or actions i d in
    let rest = drop (i + 1) actions in
    let far : made ++ filter_map setup_event ((x ∷ []) ++ rest) ≡ filter_map setup_event actions =
    rw (drop_more actions i d inside) at so_far in
    rw e
    (append_assoc made (filter_map setup_event (x ∷ [])) (filter_map setup_event rest)
    ∙ ap (λ l. made ++ l) (sym (filter_map-append setup_event (x ∷ []) rest)) ∙ far)
