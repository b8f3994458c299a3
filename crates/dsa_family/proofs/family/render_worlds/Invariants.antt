use Rattle.std.proofs.Common.{◌++◌, ℕ, List, Option, drop, map, string_bytes}
use Rattle.std.specs.Option.{option_or}
use Rattle.serde_json.specs.View.{view}
use Rattle.dsa_scenario.specs.declared.faults.ScenarioFault.{ScenarioFault}
use Rattle.dsa_family.specs.{Family.{AreMadeOfWorlds}, Told.{varied_as}}
use Rattle.dsa_family.proofs.family.render_worlds.Given as goal

abbrev pub invariant-loop-world : goal.invariant-loop-world
invariant-loop-world g l =
    (later : Option ScenarioFault) (rest : List ℕ)
    → AreMadeOfWorlds (g.R.Render.is_rendering l.family.inner) l.family.heading (view l.worlds.base)
    (map varied_as l.worlds.axes.items) (drop l.world-index l.numbers) later rest
    → AreMadeOfWorlds (g.R.Render.is_rendering l.family.inner) l.family.heading (view l.worlds.base)
    (map varied_as l.worlds.axes.items) l.numbers (option_or l.made.fault later) (string_bytes l.made.text ++ rest)
