-- The items of an array.
use Rattle.std.proofs.Common.{◌≡◌, List, [], ◌∷◌, refl, ap}
use Rattle.serde_json.specs.{Data.{Data}, View.{items_of}}
use Rattle.dsa_scenario.specs.Document.{list_of_items}

pub listed : (ds : List Data) → list_of_items (items_of ds) ≡ ds
listed [] = refl
listed (d ∷ ds) = ap (λ es. d ∷ es) (listed ds)
