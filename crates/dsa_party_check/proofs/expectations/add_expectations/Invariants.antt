use Rattle.dsa_party_check.proofs.expectations.add_expectations.Given as goal
use Rattle.std.proofs.Common.{◌≡◌, ◌++◌, drop, map}
use Rattle.serde_json.specs.View.{view}
use Rattle.dsa_questions.specs.Formed.{as_names}
use Rattle.dsa_party_check.specs.Complaints.{complained}
use Rattle.dsa_party_check.specs.Expectations.{expecting, of_expectations}

-- it is left to add the others
abbrev pub invariant-loop-expectation : goal.invariant-loop-expectation
invariant-loop-expectation l =
    map complained l.complaints.items
    ++ of_expectations (as_names l.naming) (view l.condition)
    (map expecting (drop l.expectation-index l.expectations))
    ≡ map complained l.initial.complaints.items
    ++ of_expectations (as_names l.naming) (view l.condition) (map expecting l.expectations)
