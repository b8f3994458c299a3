use Rattle.dsa_plans.proofs.labels.add_member_labels.Given as goal
use Rattle.std.proofs.Common.{◌≡◌, ◌++◌, map, string_bytes}
use Rattle.dsa_base.specs.Numbers.{numbers_below}
use Rattle.dsa_plans.specs.PartyLabels.{member_text}

abbrev pub invariant-loop-k : goal.invariant-loop-k
invariant-loop-k l =
    map string_bytes l.labels.items
    ≡ map string_bytes l.initial.labels.items ++ map (member_text l.label) (numbers_below l.k)
