use Rattle.std.proofs.Common.{◌≡◌, drop, map}
use Rattle.serde_json.specs.View.{view}
use Rattle.dsa_family.specs.{Axes.{with_chosen}, Told.{chosen_as}}
use Rattle.dsa_family.proofs.chosen.with_chosen.Given as goal

abbrev pub invariant-loop-choice : goal.invariant-loop-choice
invariant-loop-choice l =
    with_chosen (map chosen_as l.choices) (view l.fn.base)
    ≡ with_chosen (map chosen_as (drop l.choice-index l.choices)) (view l.document)
