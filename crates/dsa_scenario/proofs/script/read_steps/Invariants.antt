use Rattle.dsa_scenario.proofs.script.read_steps.Given as goal
use Rattle.std.proofs.Common.{List, ◌++◌, length}
use Rattle.json.specs.Token.{Token}
use Rattle.dsa_scenario.specs.declared.actions.Action.{Action}
use Rattle.dsa_scenario.specs.Tokens.{ReadsSteps}

abbrev pub invariant-loop-actions : goal.invariant-loop-actions
invariant-loop-actions l =
    (more : List Action) → (new : List Token) → ReadsSteps l.reader more new
    → ReadsSteps l.initial.reader (l.actions.items ++ more) new

abbrev pub decreases-loop-actions : goal.decreases-loop-actions
decreases-loop-actions l = length l.reader
