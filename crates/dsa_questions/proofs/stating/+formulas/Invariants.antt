use Rattle.dsa_questions.proofs.stating.+formulas.Given as goal
use Rattle.std.proofs.Common.{◌≡◌, ◌+◌, ◌*◌, drop, map}
use Rattle.serde_json.specs.View.{view}
use Rattle.dsa_plans.specs.Said.{each_onto}
use Rattle.dsa_questions.specs.{Formed.{formed, as_names}, Stating.{formula_onto, part_onto}}

-- it is left to add the other parts
abbrev pub invariant-add_parts-loop-part : goal.invariant-add_parts-loop-part
invariant-add_parts-loop-part l =
    each_onto (part_onto l.join (formula_onto l.depth (as_names l.naming))) (formed l.so_far)
    (map view (drop l.part-index l.parts))
    ≡ each_onto (part_onto l.join (formula_onto l.depth (as_names l.naming))) (formed l.initial.so_far)
    (map view l.parts)

abbrev pub decreases-add_formula : goal.decreases-add_formula
decreases-add_formula l = 4 * l.depth

abbrev pub decreases-add_one_key : goal.decreases-add_one_key
decreases-add_one_key l = 4 * l.depth + 3

abbrev pub decreases-add_joined : goal.decreases-add_joined
decreases-add_joined l = 4 * l.depth + 2

abbrev pub decreases-add_parts : goal.decreases-add_parts
decreases-add_parts l = 4 * l.depth + 1
