-- Members and names that the program holds.
use Rattle.std.specs.Prelude.{ℕ, ◌≤◌, ⊤, List, [], ◌∷◌, Option, map, option_map, string_bytes}
use Rattle.serde_json.specs.{Data.{Data, depth}, View.{view}}
use Rattle.dsa_expand.specs.declared.members.{Content.{Content, TheVariants.{Read, Made}}, Member.{Member}}
use Rattle.dsa_expand.specs.declared.{members.StrictStep.{StrictStep}, steps.GivenName.{GivenName}}
use Rattle.dsa_expand.specs.Steps.{Pair, Given, Known}

abbrev pub content_as : Content → Data
content_as (Read value) = view value.now
content_as (Made value) = view value

abbrev pub pair_of : Member → Pair
pair_of member = (member.key.now, content_as member.content)

abbrev pub given_as : GivenName → Given
given_as one = (string_bytes one.text, one.name)

abbrev pub known_as : Option (List GivenName) → Known
known_as known = option_map (λ given. map given_as given) known

abbrev pub pairs_of_step : StrictStep → List Pair
pairs_of_step step = map pair_of step.members.items

-- ---- how deep they nest

-- no value nests deeper
abbrev pub AreFlat : ℕ → List Data → Type 0
AreFlat n [] = ⊤
AreFlat n (d ∷ ds) = (depth d ≤ n) × AreFlat n ds

-- no member's value nests deeper
abbrev pub AreShallow : ℕ → List Pair → Type 0
AreShallow n [] = ⊤
AreShallow n (p ∷ ps) = (depth p.1 ≤ n) × AreShallow n ps
