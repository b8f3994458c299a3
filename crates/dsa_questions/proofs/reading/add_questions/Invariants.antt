use Rattle.dsa_questions.proofs.reading.add_questions.Given as goal
use Rattle.std.proofs.Common.{◌≡◌, drop, map}
use Rattle.serde_json.specs.View.{view}
use Rattle.dsa_questions.specs.{Formed.{as_names}, Reading.{inquiry_of, questions_onto}}

-- it is left to add the others
abbrev pub invariant-loop-item : goal.invariant-loop-item
invariant-loop-item l =
    questions_onto l.kind (as_names l.naming) (inquiry_of l.questions) (map view (drop l.item-index l.items))
    ≡ questions_onto l.kind (as_names l.naming) (inquiry_of l.initial.questions) (map view l.items)
