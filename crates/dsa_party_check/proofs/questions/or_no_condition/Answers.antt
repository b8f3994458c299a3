use Rattle.dsa_party_check.proofs.questions.or_no_condition.Goals as goal
use Rattle.std.proofs.Common.{◌≡◌, ◌≢◌, List, [], ◌∷◌, map, refl, arith}
use Rattle.std.proofs.lemmas.Grind.{common_steps}
use Rattle.dsa_party_check.specs.declared.complaint.Complaint.{Complaint}
use Rattle.dsa_party_check.specs.{Complaints.{complained}, QuestionFlaws.{or_no_condition}}

some-stay : (found : List Complaint) → found ≢ [] → map complained found ≡ or_no_condition (map complained found)
some-stay [] some = absurd (some refl)
some-stay (c ∷ cs) some = refl

pub returns-then-not-is_empty : goal.returns-then-not-is_empty
returns-then-not-is_empty c =
    let some : c.args.found.items ≢ [] = grind (arith, common_steps) in
    some-stay c.args.found.items some
