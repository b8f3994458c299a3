use Rattle.std.proofs.Common.{◌≡◌, ◌++◌, map}
use Rattle.std.specs.Prelude.{filter, not}
use Rattle.serde_json.specs.View.{view}
use Rattle.dsa_expand.specs.{Steps.{Pair}, Members.{pair_of}, Values.{pairs_of}, Expansion.{is_part}}
use Rattle.dsa_expand.proofs.Lists.{entry_pair}
use Rattle.dsa_expand.proofs.expansion.add_remarks.Given as goal

abbrev pub invariant-loop-key : goal.invariant-loop-key
invariant-loop-key l =
    map pair_of l.members.items
    ++ filter (λ (pair : Pair). not (is_part pair.0)) (map entry_pair l.key-iterator)
    ≡ map pair_of l.initial.members.items
    ++ filter (λ (pair : Pair). not (is_part pair.0)) (pairs_of (view l.document))
