-- A list of events, one after the other.
use Rattle.std.specs.Prelude.{◌≡◌, ◌++◌, true, List, map, Some}
use Rattle.dsa_book.specs.{declared.event.{Event.{Event}, Step.{Step}}, Machine.{is_run_after, stored_steps, replay}}
use Rattle.dsa_device.specs.Running.{Running, after_answers}

-- one step was added for each event, in order, and the device is what they lead to (profile)
pub record IsAnswered (before : Running) (events : List Event) (old new : List Step) (after : Running) : Type 0 where
  pub steps : List Step
  pub added : new ≡ old ++ steps
  pub events_are : map (λ step. step.event) steps ≡ events
  pub answered : after_answers before steps ≡ Some after

-- one step was added for each event, in order: they are a run of the device's capacity after its
-- history, which has grown by those that are kept, and the state is its replay (profile)
pub record IsRunOf (before : Running) (events : List Event) (old new : List Step) (after : Running) : Type 0 where
  pub steps : List Step
  pub added : new ≡ old ++ steps
  pub events_are : map (λ step. step.event) steps ≡ events
  pub allowed : is_run_after before.caps before.capacity before.history steps ≡ true
  pub same_caps : after.caps ≡ before.caps
  pub same_capacity : after.capacity ≡ before.capacity
  pub history : after.history ≡ before.history ++ stored_steps steps
  pub replayed : replay before.caps after.history ≡ Some after.state
