use Rattle.std.proofs.Common.{◌≡◌, drop, map}
use Rattle.std.specs.List.{list_all}
use Rattle.serde_json.specs.View.{view}
use Rattle.dsa_family.specs.{Axes.{has_place}, Told.{varied_as}}
use Rattle.dsa_family.proofs.axes.has_places.Given as goal

abbrev pub invariant-loop-axis : goal.invariant-loop-axis
invariant-loop-axis l =
    list_all (has_place (view l.base)) (map varied_as l.axes)
    ≡ list_all (has_place (view l.base)) (map varied_as (drop l.axis-index l.axes))
