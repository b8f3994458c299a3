-- One step more, with the own names that were given up to it.
use Rattle.std.proofs.Common.{◌≡◌, ◌∙◌, List, [], ◌∷◌, ◌++◌, ap, sym, append_assoc, append-nil, filter_map}
use Rattle.std.proofs.lemmas.List.Elements.{filter_map-append}
use Rattle.serde_json.specs.Data.{Data}
use Rattle.dsa_scenario.specs.Steps.{Visit}
use Rattle.dsa_named.specs.Names.{given_at, names_given}
use Rattle.dsa_named.specs.Steps.{named_visit, named_visits}

pub named-more : (objects : List Data) (before steps : List Visit) (step : Visit)
    → named_visits objects before (steps ++ step ∷ [])
    ≡ named_visits objects before steps ++ named_visit (names_given objects (before ++ steps ++ step ∷ [])) step ∷ []
named-more objects before [] step =
    ap (λ l. named_visit (names_given objects (l ++ step ∷ [])) step ∷ []) (sym (append-nil before))
named-more objects before (first ∷ steps) step =
    let here = named_visit (names_given objects (before ++ first ∷ [])) first in
    let more = named_visits objects (before ++ first ∷ []) steps in
    ap (λ l. here ∷ l) (named-more objects (before ++ first ∷ []) steps step)
    ∙ ap (λ l. here ∷ more ++ named_visit (names_given objects (l ++ step ∷ [])) step ∷ [])
    (append_assoc before (first ∷ []) steps)

pub names-more : (objects : List Data) (steps : List Visit) (step : Visit)
    → names_given objects (steps ++ step ∷ [])
    ≡ names_given objects steps ++ filter_map (given_at objects step.number) (step.entry ∷ [])
names-more objects steps step = filter_map-append (λ s. given_at objects s.number s.entry) steps (step ∷ [])
