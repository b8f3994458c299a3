-- What is made of a document in the friendly form.
use Rattle.std.specs.Prelude.{◌≡◌, ◌⊎◌, ℕ, List, Option, Some, None}
use Rattle.dsa_scenario.specs.declared.faults.ScenarioFault.{ScenarioFault}
use Rattle.dsa_expand.specs.Expansion.{IsExpansion}

-- what is made of a friendly document, by what a text and a fault of a strict one are: those of its strict form, or no
-- text and the fault for which it has none (profile)
abbrev pub IsMadeOfFriendly : (is_rendering : List ℕ → Option ScenarioFault → List ℕ → Type 0) → List ℕ
    → Option ScenarioFault → List ℕ → Type 0
IsMadeOfFriendly is_rendering bytes fault text =
    ((strict : List ℕ) × IsExpansion bytes None strict × is_rendering strict fault text)
    ⊎ ((e : ScenarioFault) × (fault ≡ Some e) × IsExpansion bytes (Some e) text)
