use Rattle.dsa_party_check.proofs.rules.add_rules.Given as goal
use Rattle.std.proofs.Common.{◌≡◌, ◌++◌, drop, map}
use Rattle.serde_json.specs.View.{view}
use Rattle.dsa_party_check.specs.Complaints.{complained}
use Rattle.dsa_party_check.specs.Rules.{of_rules, wanting_of}

-- it is left to add the others
abbrev pub invariant-loop-rule : goal.invariant-loop-rule
invariant-loop-rule l =
    map complained l.complaints.items ++ of_rules l.inside (view l.object) (map wanting_of (drop l.rule-index l.rules))
    ≡ map complained l.initial.complaints.items ++ of_rules l.inside (view l.object) (map wanting_of l.rules)
