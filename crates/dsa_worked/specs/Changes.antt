-- States in which a change may come, and states in which one of its tests fails.
use Rattle.std.specs.Prelude.{ℕ, false, List, [], ◌∷◌, ◌++◌, replicate, Option, None, unwrap_or}
use Rattle.dsa_regs.specs.Worked.{caps, queues, groups}
use Rattle.dsa_regs.specs.declared.{Phase.{Phase}, Command.TheVariants.{DrainAll}}
use Rattle.dsa_store.specs.Content.{Content}
use Rattle.dsa_book.specs.declared.{note.ActiveCommand.{ActiveCommand}, event.Step.{Step}}
use Rattle.dsa_book.specs.declared.answer.{SubmitAnswer.TheVariants.{Retry}, Cause.TheVariants.{AtLimit}}
use Rattle.dsa_book.specs.{State.{State, opening, opening_setup}, Machine.{replay}}
use Rattle.dsa_worked.specs.Setup.{no_op, held_entry, setup, to_shared, enqcmd}

-- both queues are configured, and they and the device are in this phase; these lists, this active command
abbrev pub state_with : Phase → Content → Option ActiveCommand → State
state_with phase content active = record {
  work = record {
    setup = record (opening_setup caps) {
      device = phase;
      configs = queues;
      phases = phase ∷ phase ∷ [];
      groups = groups;
      next_name = 2;
    };
    content = content;
    notes = None ∷ None ∷ [];
    fates = [];
  };
  active = active;
}

-- nothing is held
abbrev pub none_held : Content
none_held = replicate 7 []

-- entry 0 waits in queue 0
abbrev pub one_waits : Content
one_waits = (held_entry 0 0 None no_op 0 false ∷ []) ∷ replicate 6 []

-- entries 0 and 1 wait there
abbrev pub two_wait : Content
two_wait = (held_entry 0 0 None no_op 0 false ∷ held_entry 1 1 None no_op 0 false ∷ []) ∷ replicate 6 []

-- a drain of all that was submitted before name 2
abbrev pub drains_two : ActiveCommand
drains_two = record { command = DrainAll; mark = 2 }

-- the queue of the limited portal is full, and this many submissions to it are refused
abbrev pub refused_often : ℕ → List Step
refused_often n = to_shared no_op 0 0 ∷ to_shared no_op 1 1 ∷ replicate n (enqcmd no_op (Retry AtLimit))

-- the state after the set-up and these steps
abbrev pub state_here : List Step → State
state_here steps = unwrap_or (replay caps (setup ++ steps)) (opening caps)
