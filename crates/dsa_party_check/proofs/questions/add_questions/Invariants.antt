use Rattle.dsa_party_check.proofs.questions.add_questions.Given as goal
use Rattle.std.proofs.Common.{◌≡◌, ◌++◌, drop, map, option_map}
use Rattle.serde_json.specs.View.{view}
use Rattle.dsa_plans.specs.PartyLabels.{numbered_from}
use Rattle.dsa_questions.specs.Formed.{as_names}
use Rattle.dsa_party_check.specs.{Complaints.{flawed}, QuestionFlaws.{question_flaws}}

-- it is left to add the others
abbrev pub invariant-loop-place : goal.invariant-loop-place
invariant-loop-place l =
    map flawed l.flaws.items
    ++ numbered_from (question_flaws (option_map as_names l.naming) l.kind l.first) l.place
    (map view (drop l.place l.items))
    ≡ map flawed l.initial.flaws.items
    ++ numbered_from (question_flaws (option_map as_names l.naming) l.kind l.first) 0 (map view l.items)
