-- Set-ups of the device with three queues, two engines and one group; and one that cannot be.
use Rattle.std.specs.Prelude.{List, [], ◌∷◌, ◌++◌, map, unwrap_or}
use Rattle.dsa_regs.specs.{declared.Caps.{Caps}, Worked.{shared_queue}}
use Rattle.dsa_regs.specs.declared.Command.TheVariants.{EnableDevice, EnableWq}
use Rattle.dsa_book.specs.declared.answer.Reply.TheVariants as reply
use Rattle.dsa_book.specs.declared.answer.{IssueAnswer.TheVariants.{Ended}, SubmitAnswer.TheVariants.{Accepted}}
use Rattle.dsa_book.specs.declared.answer.WriteAnswer.TheVariants.{Written}
use Rattle.dsa_book.specs.declared.event.{Event.{Event}, Kind.TheVariants.{Enqcmd}, Portal.TheVariants.{Limited}}
use Rattle.dsa_book.specs.declared.event.Event.TheVariants as event
use Rattle.dsa_book.specs.declared.event.Step.{Step}
use Rattle.dsa_book.specs.{Machine.{replay}, State.{State, opening}}
use Rattle.dsa_explore.specs.WorkedSearch.{uneven_caps}

-- the events of these steps
abbrev pub events_of_set_up : List Step → List Event
events_of_set_up steps = map (λ (step : Step). step.event) steps

-- queue 2 and a group of it and of both engines are written and enabled
abbrev pub opened_steps : List Step
opened_steps =
    record { event = event.WriteQueue 2 shared_queue; reply = reply.Write Written } ∷
    record {
      event = event.WriteGroup 0 (record { queues = 4; engines = 3; reserved = 0; allowed = 8 });
      reply = reply.Write Written;
    } ∷ record { event = event.Issue EnableDevice; reply = reply.Issue (Ended 0) } ∷
    record { event = event.Issue (EnableWq 2); reply = reply.Issue (Ended 0) } ∷ []

-- and a No-op comes to queue 2
abbrev pub entry_steps : List Step
entry_steps = opened_steps ++ record {
  event = event.Submit 0 2 Limited (Enqcmd 5) (record { pasid = 0; flags = 0; op = 0; size = 0 });
  reply = reply.Submit (Accepted (record { cell = record { 0 = 0 }; name = 0 }));
} ∷ []

-- the state after these steps
abbrev pub state_after_set_up : List Step → State
state_after_set_up steps = unwrap_or (replay uneven_caps steps) (opening uneven_caps)

-- the same device without engines
abbrev pub caps_without_engines : Caps
caps_without_engines = record uneven_caps { engines = 0 }
