-- Entries, lanes, devices and steps that the worked rows speak of.
use Rattle.dsa_book.specs.declared.answer.Reply.TheVariants as reply
use Rattle.dsa_book.specs.declared.event.Event.TheVariants as event
use Rattle.std.specs.Prelude.{ℕ, ◌*◌, true, List, [], ◌∷◌, Option, Some, None, ⊤}
use Rattle.dsa_desc.specs.declared.Outcome.TheVariants.{Success}
use Rattle.dsa_regs.specs.declared.{Caps.{Caps}, Command.{Command}, Command.TheVariants.{AbortPasid}}
use Rattle.dsa_regs.specs.declared.QueueConfig.{QueueConfig}
use Rattle.dsa_regs.specs.{Config.{zero_group, zero_queue}, Worked.{caps}}
use Rattle.dsa_store.specs.{Content.{Content, HeldEntry}, declared.entry.Entry.{Entry}}
use Rattle.dsa_book.specs.declared.fate.{Fate.{Fate, TheVariants.{Aborted}}, FateRow.{FateRow}}
use Rattle.dsa_book.specs.declared.answer.{DispatchAnswer.TheVariants.{Taken}, FetchAnswer.TheVariants.{Fetched}}
use Rattle.dsa_book.specs.declared.answer.{FinishAnswer.TheVariants.{Done}, StartAnswer.TheVariants.{Started}}
use Rattle.dsa_book.specs.declared.answer.{IssueAnswer.{IssueAnswer, TheVariants.{Ended}}, SubmitAnswer.{SubmitAnswer}}
use Rattle.dsa_book.specs.declared.event.{Kind.TheVariants.{Enqcmd}, Portal.TheVariants.{Limited}}
use Rattle.dsa_book.specs.State.{opening}
use Rattle.dsa_device.specs.Running.{Running, running_at_first}
use Rattle.dsa_scenario.specs.{declared.run.Record.{Record}, Steps.{Visit, visit}}
use Rattle.dsa_scenario.specs.Worked.{digits_on_literals, fill, record_ticket, stepped}
use Rattle.dsa_chrome.specs.declared.{lanes.{Lane.{Lane}, Work.{Work}}, slices.End.{End}}
use Rattle.dsa_chrome.specs.{Pages.{EventsMade}, Traces.{meta_text}}

-- what the rows unfold to compute texts
unfoldable pub chrome_on_literals : ⊤
unfolding digits_on_literals meta_text
chrome_on_literals = tt

-- ---- entries and lanes

-- a Move of so many pages under PASID 7, which came to queue 2
abbrev pub entry_of_pages : ℕ → Option ℕ → ℕ → Entry
entry_of_pages name parent pages = record {
  name = name;
  parent = parent;
  desc = record { pasid = 7; flags = 0; op = 3; size = pages * 4096 };
  queue = 2;
  running = true;
}

-- which came to an engine with step 5
abbrev pub work_named : ℕ → Option ℕ → Work
work_named name parent = record { begin = 5; client = None; entry = entry_of_pages name parent 2 }

-- and ended with step 9
abbrev pub end_with : Fate → Option End
end_with fate = Some (record { step = 9; fate = fate })

-- a lane of this engine with such an entry, or with none
abbrev pub lane_with : ℕ → ℕ → Lane
lane_with engine name = record { engine = engine; work = Some (work_named name None) }

abbrev pub lane_without : ℕ → Lane
lane_without engine = record { engine = engine; work = None }

abbrev pub nothing_made : EventsMade
nothing_made = record { text = []; lanes = []; clients = [] }

-- ---- devices

-- three queues, four groups and two engines
abbrev pub caps_of_a_chrome : Caps
caps_of_a_chrome =
    let few = record caps { queues = 3; groups = 4; engines = 2; slots = 6; max_batch_shift = 5 } in
    record few { total_size = 32; read_buffers = 40 }

abbrev pub queue_of_a_chrome : QueueConfig
queue_of_a_chrome = record zero_queue { size = 9; max_xfer_shift = 20 }

-- an entry in the cell of its name
abbrev pub entry_in_own_cell : ℕ → Option ℕ → ℕ → HeldEntry
entry_in_own_cell name parent pages = (record { 0 = name }, entry_of_pages name parent pages)

-- group 0 has engine 1, and group 1 has engine 0; it has these lists and these fates
abbrev pub device_with : Content → List FateRow → Running
device_with content fates =
    let work = (opening caps_of_a_chrome).work in
    record (running_at_first caps_of_a_chrome 50) {
      state = record {
        work = record work {
          setup = record work.setup {
            configs = queue_of_a_chrome ∷ queue_of_a_chrome ∷ queue_of_a_chrome ∷ [];
            groups =
                record zero_group { engines = 2; allowed = 11 } ∷ record zero_group { engines = 1; allowed = 13 } ∷ [];
          };
          content = content;
          fates = fates;
        };
        active = None;
      };
    }

-- two entries wait in queue 1 and one in queue 2; engine 0 has one of one page, and engine 1 one of three pages and a
-- member of it
abbrev pub busy_device : List FateRow → Running
busy_device fates = device_with
    ([] ∷ (entry_in_own_cell 21 None 1 ∷ entry_in_own_cell 22 None 1 ∷ []) ∷ (entry_in_own_cell 23 None 1 ∷ [])
    ∷ (entry_in_own_cell 31 None 1 ∷ []) ∷ (entry_in_own_cell 33 None 3 ∷ []) ∷ []
    ∷ (entry_in_own_cell 41 (Some 33) 2 ∷ []) ∷ []) fates

-- ---- steps

abbrev pub submit_record : SubmitAnswer → Record
submit_record answer = stepped (event.Submit 4 1 Limited (Enqcmd 6) fill) (reply.Submit answer)

abbrev pub dispatch_record : ℕ → ℕ → Record
dispatch_record engine name = stepped (event.Dispatch engine) (reply.Dispatch (Taken (record_ticket name name) 2))

abbrev pub fetch_record : ℕ → ℕ → Record
fetch_record engine name = stepped (event.Fetch engine fill) (reply.Fetch (Fetched (record_ticket name name)))

abbrev pub start_record : ℕ → ℕ → Record
start_record engine name = stepped (event.Start engine) (reply.Start (Started (record_ticket name name)))

abbrev pub finish_record : ℕ → ℕ → ℕ → Record
finish_record engine name status =
    stepped (event.Finish engine (record_ticket name name) Success) (reply.Finish (Done status))

abbrev pub issue_record : Command → IssueAnswer → Record
issue_record command answer = stepped (event.Issue command) (reply.Issue answer)

-- the rows of an entry that had ended before, and of two that an abort takes out, one of which no engine had
abbrev pub rows_before : List FateRow
rows_before = record { name = 20; parent = None; fate = Aborted 3 } ∷ []

abbrev pub rows_of_an_abort : List FateRow
rows_of_an_abort =
    record { name = 20; parent = None; fate = Aborted 3 } ∷ record { name = 22; parent = None; fate = Aborted 9 }
    ∷ record { name = 41; parent = Some 33; fate = Aborted 9 } ∷ []

-- engine 1 takes a batch and fetches a member, engine 0 takes an entry, and an abort takes out the member
abbrev pub steps_of_an_abort : List Visit
steps_of_an_abort =
    let busy = busy_device rows_before in
    visit 0 busy (dispatch_record 1 33) busy ∷ visit 1 busy (fetch_record 1 41) busy
    ∷ visit 2 busy (dispatch_record 0 31) busy
    ∷ visit 3 busy (issue_record (AbortPasid 7) (Ended 2)) (device_with [] rows_of_an_abort) ∷ []
