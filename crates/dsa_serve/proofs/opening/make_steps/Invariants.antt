use Rattle.dsa_serve.proofs.opening.make_steps.Given as goal
use Rattle.std.proofs.Common.{◌≡◌, ℕ, List, [], length, map, take, string_bytes}
use Rattle.serde_json.specs.View.{view}
use Rattle.dsa_regs.specs.declared.Caps.{Caps}
use Rattle.dsa_scenario.specs.declared.{actions.Action.{Action}, run.Record.{Record}}
use Rattle.dsa_conform.specs.{Seen.{Seen}, Run.{AreRead}}
use Rattle.dsa_serve.specs.Names.{own_names_of, names_over}
use Rattle.dsa_serve.specs.{Requests.{step_request}, Answers.{HasCome}}

-- the steps before were made
abbrev pub invariant-loop-step : goal.invariant-loop-step
invariant-loop-step l =
    (observed : List (Action × Seen)) × AreRead (map view l.steps) observed
    × ((caps : Caps) → (capacity : ℕ)
    → HasCome caps capacity [] [] l.initial.session (string_bytes l.initial.text)
    → (records : List Record)
    × HasCome caps capacity (map step_request (take l.step-index observed)) records l.session (string_bytes l.text)
    × (length records ≡ length (take l.step-index observed))
    × (own_names_of l.session
    ≡ names_over (own_names_of l.initial.session) (take l.step-index (map view l.steps)) records))
