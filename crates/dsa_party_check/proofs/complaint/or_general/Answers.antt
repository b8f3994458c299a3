use Rattle.dsa_party_check.proofs.complaint.or_general.Goals as goal
use Rattle.std.proofs.Common.{◌≡◌, ◌≢◌, List, [], ◌∷◌, map, refl, arith}
use Rattle.std.proofs.lemmas.Grind.{common_steps}
use Rattle.dsa_party_check.specs.declared.complaint.{Complaint.{Complaint}, Inside.{Inside}}
use Rattle.dsa_party_check.specs.Complaints.{complained, or_general}

some-stay : (inside : Inside) (found : List Complaint) → found ≢ []
    → map complained found ≡ or_general inside (map complained found)
some-stay inside [] some = absurd (some refl)
some-stay inside (c ∷ cs) some = refl

pub returns-then-not-is_empty : goal.returns-then-not-is_empty
returns-then-not-is_empty c =
    let some : c.args.found.items ≢ [] = grind (arith, common_steps) in
    some-stay c.args.inside c.args.found.items some
