-- Administrators: what each of their steps does.
use Rattle.dsa_book.specs.declared.event.Event.TheVariants as event
use Rattle.std.specs.Prelude.{false, cond, List, [], ◌∷◌, ◌++◌, length, codes, Option, Some, None, option_map}
use Rattle.serde_json.specs.{Data.{Data}, Find.{get}}
use Rattle.dsa_scenario.specs.declared.actions.Action.{Action, TheVariants.{Ask}}
use Rattle.dsa_scenario.specs.{Fields.{◌>>=◌}, Actions.{action_of}}
use Rattle.dsa_parties.specs.declared.script.Part.{Part}
use Rattle.dsa_parties.specs.declared.script.Act.{Act, TheVariants.{Issue, Poll, WriteQueue, WriteGroup, ClearError}}
use Rattle.dsa_parties.specs.declared.script.Until.TheVariants.{Once}
use Rattle.dsa_plans.specs.Said.{lacks, read_or, items_in, each_onto, read_onto, busy_said, until_said}

-- what an administrator does by an object that asks this
abbrev pub act_asked : Data → Action → Option Act
act_asked d (Ask (event.Issue command)) =
    option_map (λ again. Issue command again) (read_or false busy_said (get (codes "busy") d))
act_asked d (Ask event.Poll) = option_map Poll (read_or Once until_said (get (codes "until") d))
act_asked d (Ask (event.WriteQueue queue config)) = Some (WriteQueue queue config)
act_asked d (Ask (event.WriteGroup group config)) = Some (WriteGroup group config)
act_asked d (Ask event.ClearError) = Some ClearError
act_asked d action = None

-- an administrator's step: it has no condition
abbrev pub act_said : Data → Option Act
act_said d = cond (lacks (codes "when" ∷ codes "if" ∷ []) d) (action_of d >>= act_asked d) None

-- what administrators do, and their parts of it
abbrev pub Acting : Type 0
Acting = List Act × List Part

-- one administrator more
abbrev pub administrator_onto : Acting → Data → Option Acting
administrator_onto done d = do
  steps ← get (codes "steps") d >>= items_in
  acts ← each_onto (read_onto act_said) done.0 steps
  Some (acts, done.1 ++ record { first = length done.0; end = length acts } ∷ [])
