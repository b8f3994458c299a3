-- Records and submissions that the worked rows speak of.
use Rattle.dsa_book.specs.declared.answer.Reply.TheVariants as reply
use Rattle.dsa_book.specs.declared.event.Event.TheVariants as event
use Rattle.std.specs.Prelude.{ℕ, true, List, [], ◌∷◌, None, get_or, map, ⊤}
use Rattle.dsa_book.specs.declared.answer.Cause.TheVariants.{AtLimit, NotEnabled, WrongKind}
use Rattle.dsa_book.specs.declared.answer.SubmitAnswer.{SubmitAnswer, TheVariants.{Accepted, Retry, Dropped, Full}}
use Rattle.dsa_book.specs.declared.event.{Kind.TheVariants.{Enqcmd}, Portal.TheVariants.{Limited}}
use Rattle.dsa_book.specs.declared.answer.IssueAnswer.{IssueAnswer, TheVariants.{Active, Refused}}
use Rattle.dsa_book.specs.declared.answer.PollAnswer.{PollAnswer}
use Rattle.dsa_book.specs.declared.answer.PollAnswer.TheVariants as poll
use Rattle.dsa_book.specs.State.{opening}
use Rattle.dsa_regs.specs.declared.{Caps.{Caps}, Command.{Command, TheVariants.{DrainAll, DrainPasid}}}
use Rattle.dsa_regs.specs.declared.Fault.TheVariants.{Busy}
use Rattle.dsa_regs.specs.{Config.{zero_group}, Worked.{caps, queue_of}}
use Rattle.dsa_store.specs.Content.{Content, HeldEntry}
use Rattle.dsa_device.specs.Running.{Running, running_at_first}
use Rattle.dsa_scenario.specs.{declared.run.Record.{Record}, Steps.{Visit, visit}}
use Rattle.dsa_scenario.specs.Worked.{digits_on_literals, fill, record_of_a_fetch, record_ticket, stepped}
use Rattle.dsa_count.specs.declared.submissions.Submission.{Submission}
use Rattle.dsa_count.specs.{Fates.{fates_line, numbered_parts}, Peaks.{peak_lines, peaks_of_holder}, Waits.{end_wait_text}}
use Rattle.dsa_count.specs.Tallies.{tallies_of, tally_line, ways_part}

-- what the rows unfold to compute texts
unfoldable pub counted_on_literals : ⊤
unfolding digits_on_literals numbered_parts fates_line peaks_of_holder peak_lines ways_part tally_line tallies_of
    end_wait_text
counted_on_literals = tt

-- a submission of this client to this queue, with this answer
abbrev pub made : ℕ → ℕ → SubmitAnswer → Submission
made client queue answer = record { client = client; queue = queue; answer = answer }

-- and its record
abbrev pub submitted : ℕ → ℕ → SubmitAnswer → Record
submitted client queue answer = stepped (event.Submit client queue Limited (Enqcmd 6) fill) (reply.Submit answer)

-- a fetched member is no submission
abbrev pub fetched_member : Record
fetched_member = record_of_a_fetch (record_ticket 1 2)

-- clients 0, 7 and 9 submit to queues 1 and 3
abbrev pub submissions_of_three : List Submission
submissions_of_three =
    made 9 1 (Accepted (record_ticket 1 0)) ∷ made 7 1 (Retry AtLimit) ∷ made 0 3 (Accepted (record_ticket 2 1))
    ∷ made 0 3 (Retry NotEnabled) ∷ made 7 3 (Dropped WrongKind) ∷ made 7 1 (Retry AtLimit)
    ∷ made 0 1 (Accepted (record_ticket 3 2)) ∷ made 7 1 Full ∷ []

-- one turned away in each way, and none accepted
abbrev pub submissions_in_each_way : List Submission
submissions_in_each_way =
    made 1 0 Full ∷ made 1 0 (Dropped WrongKind) ∷ made 1 0 (Dropped NotEnabled) ∷ made 1 0 (Dropped AtLimit)
    ∷ made 1 0 (Retry WrongKind) ∷ made 1 0 (Retry NotEnabled) ∷ made 1 0 (Retry AtLimit) ∷ []

-- ---- commands

abbrev pub issued_with : Command → IssueAnswer → Record
issued_with command answer = stepped (event.Issue command) (reply.Issue answer)

abbrev pub polled : PollAnswer → Record
polled answer = stepped event.Poll (reply.Poll answer)

-- a drain that is over after the fourth step, in which another one was refused, and one that nobody saw end
abbrev pub records_of_two_drains : List Record
records_of_two_drains =
    issued_with (DrainPasid 7) Active ∷ polled poll.Active ∷ issued_with DrainAll (Refused Busy) ∷ submitted 0 1 Full
    ∷ polled poll.Finished ∷ polled poll.Nothing ∷ issued_with DrainAll Active ∷ polled poll.Active ∷ []

-- ---- devices

-- four queues, three groups and two engines
abbrev pub caps_of_a_count : Caps
caps_of_a_count =
    let of_counts = record caps { queues = 4; groups = 3; engines = 2; total_size = 32; read_buffers = 40 } in
    record of_counts { slots = 6; max_batch_shift = 9 }

-- in the cell of number 5, a Move of so many bytes
abbrev pub counted_entry : ℕ → ℕ → HeldEntry
counted_entry name size = (
  record { 0 = 5 },
  record {
    name = name;
    parent = None;
    desc = record { pasid = 7; flags = 0; op = 3; size = size };
    queue = 2;
    running = true;
  },
)

-- with queues of these sizes, groups that have engine 0 and engine 1 and these allowances, and these lists
abbrev pub device_of_a_count : List ℕ → List ℕ → Content → Running
device_of_a_count sizes allowances content =
    let work = (opening caps_of_a_count).work in
    record (running_at_first caps_of_a_count 50) {
      state = record {
        work = record work {
          setup = record work.setup {
            configs = map (λ size. queue_of size) sizes;
            groups =
                record zero_group { engines = 1; allowed = get_or allowances 0 0 }
                ∷ record zero_group { engines = 2; allowed = get_or allowances 1 0 } ∷ zero_group ∷ [];
          };
          content = content;
        };
        active = None;
      };
    }

-- two entries wait in queue 1 and one in queue 2, and engine 0 works on one
abbrev pub first_device : Running
first_device = device_of_a_count (0 ∷ 9 ∷ 5 ∷ 3 ∷ []) (11 ∷ 6 ∷ [])
    ([] ∷ (counted_entry 1 1 ∷ counted_entry 2 1 ∷ []) ∷ (counted_entry 3 1 ∷ []) ∷ [] ∷ (counted_entry 0 1 ∷ [])
    ∷ [] ∷ [] ∷ [] ∷ [])

-- one waits in queue 1 and three in queue 2, and engine 1 works on two
abbrev pub second_device : Running
second_device = device_of_a_count (0 ∷ 6 ∷ 12 ∷ 3 ∷ []) (4 ∷ 13 ∷ [])
    ([] ∷ (counted_entry 2 1 ∷ []) ∷ (counted_entry 3 1 ∷ counted_entry 4 1 ∷ counted_entry 5 1 ∷ []) ∷ [] ∷ []
    ∷ (counted_entry 0 4096 ∷ counted_entry 1 12288 ∷ []) ∷ [] ∷ [] ∷ [])

-- the steps after which they stand so
abbrev pub steps_of_two_devices : List Visit
steps_of_two_devices =
    visit 0 first_device (polled poll.Nothing) first_device ∷ visit 1 first_device (polled poll.Nothing) second_device
    ∷ []

-- a drain, and the poll that reports its end
abbrev pub steps_of_a_drain : List Visit
steps_of_a_drain =
    visit 0 second_device (issued_with DrainAll Active) second_device
    ∷ visit 1 second_device (polled poll.Finished) second_device ∷ []
