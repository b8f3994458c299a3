use Rattle.dsa_scenario.proofs.members.read_members.Given as goal
use Rattle.std.proofs.Common.{List, length}
use Rattle.json.specs.Token.{Token}
use Rattle.serde_json.specs.Data.{Members, no_members}
use Rattle.dsa_scenario.specs.Tokens.{put_all, ReadsMembers}

abbrev pub invariant-loop-next : goal.invariant-loop-next
invariant-loop-next l =
    (all : Members) → (new : List Token) → ReadsMembers 0 l.reader (put_all l.members.items no_members) all new
    → ReadsMembers 0 l.initial.reader no_members all new

abbrev pub decreases-loop-next : goal.decreases-loop-next
decreases-loop-next l = length l.reader
