use Rattle.std.proofs.Common.{◌≡◌, ◌++◌, map}
use Rattle.std.specs.Prelude.{filter, not}
use Rattle.serde_json.specs.View.{view}
use Rattle.dsa_expand.specs.{Steps.{Pair, is_in_strict, other_members}, Members.{pair_of}}
use Rattle.dsa_expand.proofs.Lists.{entry_pair}
use Rattle.dsa_expand.proofs.steps.add_others.Given as goal

abbrev pub invariant-loop-key : goal.invariant-loop-key
invariant-loop-key l =
    map pair_of l.members.items
    ++ filter (λ (pair : Pair). not (is_in_strict l.kind (view l.step) pair.0)) (map entry_pair l.key-iterator)
    ≡ map pair_of l.initial.members.items ++ other_members l.kind (view l.step)
