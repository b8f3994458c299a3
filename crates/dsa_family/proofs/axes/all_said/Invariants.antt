use Rattle.std.proofs.Common.{◌≡◌, ◌++◌, drop, map}
use Rattle.std.specs.Prelude.{option_map}
use Rattle.serde_json.specs.View.{view}
use Rattle.dsa_family.specs.{Axes.{HaveValues, all_said}, Told.{varied_as}}
use Rattle.dsa_family.proofs.axes.all_said.Given as goal

abbrev pub invariant-loop-item : goal.invariant-loop-item
invariant-loop-item l =
    (all_said (map view l.items)
    ≡ option_map (λ more. map varied_as l.axes.items ++ more) (all_said (map view (drop l.item-index l.items))))
    × HaveValues (map varied_as l.axes.items)
