use Rattle.dsa_scenario.proofs.script.read_parts.Given as goal
use Rattle.std.proofs.Common.{List, length, option_map}
use Rattle.json.specs.Token.{Token}
use Rattle.serde_json.specs.Data.{Members, no_members}
use Rattle.dsa_scenario.specs.Tokens.{HasParts, ReadsMembers}

abbrev pub invariant-loop-next : goal.invariant-loop-next
invariant-loop-next l = (found : Members)
    × ((all : Members) → (new : List Token) → ReadsMembers 2 l.reader found all new
    → ReadsMembers 2 l.initial.reader no_members all new)
    × (HasParts no_members l.initial.parts.caps l.initial.parts.capacity (option_map (λ v. v.items) l.initial.parts.actions)
    → HasParts found l.parts.caps l.parts.capacity (option_map (λ v. v.items) l.parts.actions))

abbrev pub decreases-loop-next : goal.decreases-loop-next
decreases-loop-next l = length l.reader
