use Rattle.dsa_plans.proofs.labels.add_administrator_labels.Given as goal
use Rattle.std.proofs.Common.{◌≡◌, ◌++◌, map, drop, string_bytes, codes}
use Rattle.serde_json.specs.View.{view}
use Rattle.dsa_plans.specs.PartyLabels.{act_label, items_or, numbered_from}

-- it is left to add the others
abbrev pub invariant-loop-place : goal.invariant-loop-place
invariant-loop-place l =
    map string_bytes l.labels.items
    ++ numbered_from (act_label l.party) l.place (map view (drop l.place l.step-items))
    ≡ map string_bytes l.initial.labels.items
    ++ numbered_from (act_label l.party) 0 (items_or (codes "steps") (view l.administrator))
