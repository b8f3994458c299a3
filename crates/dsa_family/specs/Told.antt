-- What the values of the code stand for.
use Rattle.std.specs.Prelude.{map}
use Rattle.serde_json.specs.View.{view}
use Rattle.dsa_family.specs.declared.{axes.Axis.{Axis}, chosen.Choice.{Choice}}
use Rattle.dsa_family.specs.Axes.{Varied, Chosen}

-- a place and its values
abbrev pub varied_as : Axis → Varied
varied_as axis = (axis.at.now, map view axis.values.now)

-- a place and its value
abbrev pub chosen_as : Choice → Chosen
chosen_as choice = (choice.at.now, view choice.value.now)
