-- States with little in them, of which the laws of answers speak.
use Rattle.std.specs.Prelude.{ℕ, false, List, [], ◌∷◌, ◌++◌, None, Some, replicate, unwrap_or}
use Rattle.dsa_regs.specs.declared.{Command.{Command, TheVariants.{DrainAll}}, Phase.{Phase}}
use Rattle.dsa_store.specs.Content.{Content}
use Rattle.dsa_book.specs.{declared.event.Step.{Step}, Machine.{replay, stored_steps, with_work}, State.{Setup, State, opening, opening_setup}}
use Rattle.dsa_book.specs.declared.event.{Portal.TheVariants.{Limited}, Kind.TheVariants.{Enqcmd}}
use Rattle.dsa_book.specs.declared.answer.{SubmitAnswer.TheVariants.{Accepted}, DispatchAnswer.TheVariants.{Taken}}
use Rattle.dsa_book.specs.declared.answer.WriteAnswer.TheVariants.{Written}
use Rattle.dsa_queues.specs.Queues.{Kept}
use Rattle.dsa_admin.specs.Admin.{Watch}
use Rattle.dsa_device.specs.Running.{Running, running_at_first}
use Rattle.dsa_worked.specs.{Setup.{completed, no_op, held_entry, step_of_a_group_write}, Values.{three_lists}}
use Rattle.dsa_worked.specs.Setup.{dispatched, ended, ticket, written}
use Rattle.dsa_worked.specs.Uneven.{many_engines, many_queues, of_these, last_of_many_queues}

-- a device of one queue with these entries, of which ten names were given
abbrev pub holding : Content → State
holding content = record {
  work = record {
    setup = record (opening_setup many_engines) { next_name = 10 };
    content = content;
    notes = [];
    fates = [];
  };
  active = None;
}

-- the cell of this number, with an entry of that name
abbrev pub one_in : ℕ → ℕ → Content
one_in cell name = (held_entry cell name None no_op 0 false ∷ []) ∷ []

-- the device and its queue are in these phases
abbrev pub with_phases_of : Phase → Phase → Setup
with_phases_of device queue = record (opening_setup many_engines) { device = device; phases = queue ∷ [] }

-- this command is active
abbrev pub with_active : Command → Setup → State
with_active command setup = record {
  work = record { setup = setup; content = []; notes = []; fates = [] };
  active = Some (record { command = command; mark = 0 });
}

-- this command is active where these entries are held
abbrev pub with_content_of : Content → Command → State
with_content_of content command = record {
  work = (holding content).work;
  active = Some (record { command = command; mark = 0 });
}

-- each of the two groups is configured
abbrev pub first_write : Step
first_write = step_of_a_group_write 0 (of_these 64 1) Written

abbrev pub second_write : Step
second_write = step_of_a_group_write 1 (of_these 32 0) Written

-- a device of this capacity after these steps
abbrev pub device_after : ℕ → List Step → Running
device_after capacity steps = record (running_at_first many_queues capacity) {
  history = steps;
  state = unwrap_or (replay many_queues steps) (opening many_queues);
}

-- a device of which so many names were given
abbrev pub with_next_name : ℕ → Running
with_next_name name =
    let d = running_at_first many_queues 5 in
    let setup = record d.state.work.setup { next_name = name } in
    record d { state = with_work d.state (record d.state.work { setup = setup }) }

-- a device where entries are held, one ended, and a command is active
abbrev pub in_use : Running
in_use = record (running_at_first many_queues 5) {
  state = record {
    work = record (holding three_lists).work { fates = completed 1 3 ∷ [] };
    active = Some (record { command = DrainAll; mark = 9 });
  };
}

-- the last of many queues, an entry of which ended
abbrev pub one_ended : List Step
one_ended =
    stored_steps last_of_many_queues ++ written 6 Limited (Enqcmd 5) no_op (Accepted (ticket 0 0))
    ∷ dispatched 0 (Taken (ticket 0 0) 6) ∷ ended 0 0 0 0x01 ∷ []

-- what is kept of the queues while nothing is held
abbrev pub none_counted : Kept
none_counted = record { setup = opening_setup many_queues; held = replicate 7 0 }

-- what is kept while no command is active
abbrev pub none_awaited : Watch
none_awaited = record { active = None; awaited = 0 }
