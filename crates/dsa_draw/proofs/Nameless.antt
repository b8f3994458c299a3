-- Steps of documents whose steps have no own names.
use Rattle.std.proofs.Common.{◌≡◌, ◌∙◌, List, [], ◌∷◌, ◌++◌, ap, map, refl}
use Rattle.serde_json.specs.Data.{Data}
use Rattle.dsa_scenario.specs.Steps.{Visit}
use Rattle.dsa_named.specs.{Names.{AreNameless}, Steps.{named_visit, named_visits}}
use Rattle.dsa_named_lines.proofs.Nameless.{no-names}

pub same-visits : (objects : List Data) (before steps : List Visit) → AreNameless objects
    → named_visits objects before steps ≡ map (named_visit []) steps
same-visits objects before [] none = refl
same-visits objects before (step ∷ steps) none =
    let so_far = before ++ step ∷ [] in
    ap (λ names. named_visit names step ∷ named_visits objects so_far steps) (no-names objects so_far none)
    ∙ ap (λ l. named_visit [] step ∷ l) (same-visits objects so_far steps none)
