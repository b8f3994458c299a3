use Rattle.std.proofs.Common.{ℕ, List, Option, None, drop, map}
use Rattle.serde_json.specs.View.{view}
use Rattle.dsa_scenario.specs.declared.faults.ScenarioFault.{ScenarioFault}
use Rattle.dsa_family.specs.{Family.{IsFirstOfWorlds}, Told.{varied_as}}
use Rattle.dsa_family.proofs.first.render_first.Given as goal

abbrev pub invariant-loop-world : goal.invariant-loop-world
invariant-loop-world g l =
    (fault : Option ScenarioFault) (text : List ℕ)
    → IsFirstOfWorlds (g.R.Render.is_rendering l.inner) (view l.worlds.base) (map varied_as l.worlds.axes.items) l.found
    (drop l.world-index l.numbers) fault text
    → IsFirstOfWorlds (g.R.Render.is_rendering l.inner) (view l.worlds.base) (map varied_as l.worlds.axes.items) None
    l.numbers fault text
