-- A device and a step that the worked rows speak of.
use Rattle.dsa_book.specs.declared.answer.PollAnswer.TheVariants as poll
use Rattle.dsa_book.specs.declared.answer.Reply.TheVariants as reply
use Rattle.dsa_book.specs.declared.event.Event.TheVariants as event
use Rattle.std.specs.Prelude.{ℕ, ◌*◌, Bool, true, false, List, [], ◌∷◌, ◌++◌, Option, Some, None, codes}
use Rattle.dsa_regs.specs.declared.{Caps.{Caps}, Command.TheVariants.{DrainPasid}, QueueConfig.{QueueConfig}}
use Rattle.dsa_regs.specs.declared.Phase.TheVariants.{Off, On, Stopping}
use Rattle.dsa_regs.specs.{Config.{zero_queue, zero_group}, Worked.{caps}}
use Rattle.dsa_store.specs.Content.{HeldEntry}
use Rattle.dsa_book.specs.{declared.answer.DispatchAnswer.TheVariants.{Taken}, State.{opening}}
use Rattle.dsa_book.specs.declared.answer.Cause.TheVariants.{AtLimit}
use Rattle.dsa_device.specs.Running.{Running, running_at_first}
use Rattle.dsa_book.specs.declared.answer.Reply.{Reply}
use Rattle.dsa_book.specs.declared.fate.{Fate.TheVariants.{Abandoned, Aborted, Completed}, FateRow.{FateRow}}
use Rattle.dsa_scenario.specs.declared.run.Record.{Record}
use Rattle.dsa_scenario.specs.{Steps.{Visit, visit}, Worked.{fate, record_ticket, smallest_caps, stepped}}

-- three queues, four groups and two engines
abbrev pub caps_of_a_trace : Caps
caps_of_a_trace =
    record caps { queues = 3; groups = 4; total_size = 32; read_buffers = 40; slots = 6; max_batch_shift = 5 }

-- a queue of this size and threshold
abbrev pub queue_of_a_trace : ℕ → ℕ → Bool → QueueConfig
queue_of_a_trace size threshold dedicated =
    record zero_queue { size = size; threshold = threshold; dedicated = dedicated; max_xfer_shift = 20 }

-- in the cell of number 5, a Move of so many pages under PASID 7, which came to queue 2
abbrev pub traced_entry : ℕ → Option ℕ → ℕ → Bool → HeldEntry
traced_entry name parent pages running = (
  record { 0 = 5 },
  record {
    name = name;
    parent = parent;
    desc = record { pasid = 7; flags = 0; op = 3; size = pages * 4096 };
    queue = 2;
    running = running;
  },
)

-- one queue has no size, one is dedicated and one shared; a Drain PASID is active, and engine 1 works on a batch
abbrev pub device_of_a_trace : Running
device_of_a_trace =
    let work = (opening caps_of_a_trace).work in
    record (running_at_first caps_of_a_trace 50) {
      state = record {
        work = record work {
          setup = record work.setup {
            device = On;
            noted = Some (record { queue = 2; cause = AtLimit; overflow = true });
            phases = Off ∷ On ∷ Stopping ∷ [];
            configs = queue_of_a_trace 0 7 false ∷ queue_of_a_trace 9 8 true ∷ queue_of_a_trace 12 5 false ∷ [];
            groups =
                record zero_group { engines = 2; allowed = 11 } ∷ record zero_group { engines = 1; allowed = 13 }
                ∷ zero_group ∷ record zero_group { reserved = 3; allowed = 4 } ∷ [];
          };
          notes =
              None ∷ Some (record { batch = 33; count = 4; fetched = 3; failed = false; closed = false }) ∷ [];
          content =
              [] ∷ (traced_entry 21 None 1 false ∷ traced_entry 22 None 1 false ∷ [])
              ∷ (traced_entry 23 None 1 false ∷ []) ∷ (traced_entry 31 None 1 true ∷ [])
              ∷ (traced_entry 32 None 1 true ∷ traced_entry 33 None 3 true ∷ []) ∷ []
              ∷ (traced_entry 41 (Some 33) 2 true ∷ traced_entry 42 (Some 33) 1 false
              ∷ traced_entry 43 (Some 33) 1 false ∷ []) ∷ [];
        };
        active = Some (record { command = DrainPasid 7; mark = 33 });
      };
    }

-- a step after which it is there, and before which another device was
abbrev pub step_of_a_trace : Visit
step_of_a_trace =
    visit 12 (running_at_first smallest_caps 50)
    (stepped (event.Dispatch 1) (reply.Dispatch (Taken (record_ticket 5 33) 2))) device_of_a_trace

-- the same device before engine 1 took entry 33, which was in front of queue 2
abbrev pub device_before_a_dispatch : Running
device_before_a_dispatch =
    let s = device_of_a_trace.state in
    record device_of_a_trace {
      state = record s {
        work = record s.work {
          content =
              [] ∷ (traced_entry 21 None 1 false ∷ traced_entry 22 None 1 false ∷ [])
              ∷ (traced_entry 33 None 3 false ∷ traced_entry 23 None 1 false ∷ [])
              ∷ (traced_entry 31 None 1 true ∷ []) ∷ (traced_entry 32 None 1 true ∷ []) ∷ []
              ∷ (traced_entry 41 (Some 33) 2 true ∷ traced_entry 42 (Some 33) 1 false
              ∷ traced_entry 43 (Some 33) 1 false ∷ []) ∷ [];
        };
      };
    }

abbrev pub dispatch_of_a_trace : Visit
dispatch_of_a_trace = record step_of_a_trace { before = device_before_a_dispatch }

-- the first step, before which and after which these devices are there
abbrev pub poll_of_a_trace : Running → Running → Visit
poll_of_a_trace before after = visit 0 before (stepped event.Poll (reply.Poll poll.Nothing)) after

-- the smallest device, whose queue was written
abbrev pub smallest_with_a_queue : Running
smallest_with_a_queue =
    let now = running_at_first smallest_caps 4 in
    record now {
      state = record now.state {
        work = record now.state.work {
          setup = record now.state.work.setup { configs = queue_of_a_trace 3 2 false ∷ [] };
        };
      };
    }

-- ---- answers and fates

-- a poll with this answer
abbrev pub answer_to_a_poll : Reply → Record
answer_to_a_poll answer = stepped event.Poll answer

-- how the entries 6 to 9 ended
abbrev pub four_fates : List FateRow
four_fates = fate 6 (Completed 1) ∷ fate 7 (Aborted 5) ∷ fate 8 (Completed 3) ∷ fate 9 Abandoned ∷ []

-- ---- what is told of two devices

-- the end of a row of the one with three queues
abbrev pub names_of_a_trace : List ℕ
names_of_a_trace =
    codes " | q1 [21,22] | q2 [23] | e0 [31] | e1 [32,33] | batch of e1 [41,42,43]"
    ++ codes " | drain-pasid 7 awaits 5\n"

-- the members of the object of the smallest one at first
abbrev pub members_at_first : List ℕ
members_at_first =
    codes "\"phase\":\"off\",\"error\":null,\"queues\":["
    ++ codes "{\"queue\":0,\"occupancy\":0,\"threshold\":0,\"size\":0,\"phase\":\"off\","
    ++ codes "\"waiting\":[]}],"
    ++ codes "\"engines\":[{\"engine\":0,\"in_progress\":0,\"slots\":1,\"members\":0,"
    ++ codes "\"names\":[],\"member_names\":[],\"batch\":null}],"
    ++ codes "\"groups\":[{\"group\":0,\"used\":0,\"allowed\":0,\"reserved\":0}],"
    ++ codes "\"active\":null"

-- and of the other one
abbrev pub members_of_a_trace : List ℕ
members_of_a_trace =
    codes "\"phase\":\"on\",\"error\":{\"queue\":2,\"cause\":\"at-limit\",\"overflow\":true},\"queues\":["
    ++ codes "{\"queue\":0,\"occupancy\":0,\"threshold\":7,\"size\":0,\"phase\":\"off\","
    ++ codes "\"waiting\":[]},"
    ++ codes "{\"queue\":1,\"occupancy\":2,\"threshold\":8,\"size\":9,\"phase\":\"on\","
    ++ codes "\"waiting\":[21,22]},"
    ++ codes "{\"queue\":2,\"occupancy\":1,\"threshold\":5,\"size\":12,"
    ++ codes "\"phase\":\"stopping\",\"waiting\":[23]}],\"engines\":["
    ++ codes "{\"engine\":0,\"in_progress\":1,\"slots\":6,\"members\":0,"
    ++ codes "\"names\":[31],\"member_names\":[],\"batch\":null},"
    ++ codes "{\"engine\":1,\"in_progress\":2,\"slots\":6,\"members\":3,"
    ++ codes "\"names\":[32,33],\"member_names\":[41,42,43],\"batch\":{\"name\":33,\"count\":4,"
    ++ codes "\"fetched\":3,\"failed\":false,\"closed\":false}}],\"groups\":["
    ++ codes "{\"group\":0,\"used\":6,\"allowed\":11,\"reserved\":0},"
    ++ codes "{\"group\":1,\"used\":1,\"allowed\":13,\"reserved\":0},"
    ++ codes "{\"group\":2,\"used\":0,\"allowed\":0,\"reserved\":0},"
    ++ codes "{\"group\":3,\"used\":0,\"allowed\":4,\"reserved\":3}],"
    ++ codes "\"active\":{\"command\":\"drain-pasid 7\",\"awaited\":5}"
