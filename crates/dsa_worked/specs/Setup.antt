-- Worked histories: a set-up of two queues, two groups and two engines, and short names for steps.
use Rattle.std.specs.Prelude.{Bool, ℕ, not, List, [], ◌∷◌, ◌++◌, length, map, replicate, slice_set, take}
use Rattle.std.specs.Prelude.{Option, Some, None, option_map}
use Rattle.dsa_desc.specs.declared.{Descriptor.{Descriptor}, Outcome.TheVariants.{Success, PageFault}}
use Rattle.dsa_regs.specs.Worked.{caps, shared_queue, dedicated_queue, first_group, second_group}
use Rattle.dsa_regs.specs.declared.{Command.{Command, TheVariants.{EnableDevice, EnableWq}}, QueueConfig.{QueueConfig}}
use Rattle.dsa_regs.specs.declared.{GroupConfig.{GroupConfig}, QueueMask.{QueueMask}, Phase.{Phase}, Fault.{Fault}}
use Rattle.dsa_store.specs.Content.{HeldEntry, Content, all_held}
use Rattle.dsa_book.specs.Machine.{replay, is_run, may_follow, stored_steps}
use Rattle.dsa_book.specs.declared.answer.DispatchAnswer.{DispatchAnswer, TheVariants.{Taken}}
use Rattle.dsa_book.specs.declared.answer.FinishAnswer.{FinishAnswer, TheVariants.{Done}}
use Rattle.dsa_book.specs.declared.answer.Reply.TheVariants.{Submit, Dispatch, Fetch, Start, Finish, Issue, Poll, Write}
use Rattle.dsa_book.specs.declared.answer.StartAnswer.{StartAnswer, TheVariants.{Started}}
use Rattle.dsa_book.specs.declared.answer.WriteAnswer.{WriteAnswer, TheVariants.{Written}}
use Rattle.dsa_book.specs.declared.answer.{FetchAnswer.{FetchAnswer, TheVariants.{Fetched}}, ClearAnswer.{ClearAnswer}}
use Rattle.dsa_book.specs.declared.answer.{IssueAnswer.{IssueAnswer, TheVariants.{Ended, Refused}}, Ticket.{Ticket}}
use Rattle.dsa_book.specs.declared.answer.{SubmitAnswer.{SubmitAnswer, TheVariants.{Accepted}}, PollAnswer.{PollAnswer}}
use Rattle.dsa_book.specs.declared.event.Event.TheVariants.{Submit, Dispatch, Fetch, Start, Finish, Issue, Poll}
use Rattle.dsa_book.specs.declared.event.Event.TheVariants.{WriteQueue, WriteGroup, ClearError}
use Rattle.dsa_book.specs.declared.event.Kind.{Kind, TheVariants.{Enqcmd, Movdir64b}}
use Rattle.dsa_book.specs.declared.event.{Portal.{Portal, TheVariants.{Limited, Unlimited}}, Event.{Event}, Step.{Step}}
use Rattle.dsa_book.specs.declared.{answer.Reply.{TheVariants.{Clear}, Reply}, fate.FateRow.{FateRow}}
use Rattle.dsa_book.specs.declared.fate.Fate.{Fate, TheVariants.{Completed}}
use Rattle.dsa_book.specs.{Totals.{total_accepted, total_fetched, total_retried, total_done, total_lost}, State.{State}}

-- ---- descriptors, with no flags and a PASID that the submission gives where it is ENQCMD

-- No-op (Intel DSA: operation 0)
abbrev pub no_op : Descriptor
no_op = record { pasid = 0; flags = 0; op = 0; size = 0 }

-- a batch of so many descriptors (Intel DSA: operation 1, Batch)
abbrev pub batch : ℕ → Descriptor
batch count = record { pasid = 0; flags = 0; op = 1; size = count }

-- the Drain operation (Intel DSA: operation 2, Drain)
abbrev pub drain : Descriptor
drain = record { pasid = 0; flags = 0; op = 2; size = 0 }

-- a move of so many bytes (Intel DSA: operation 3, Memory Move)
abbrev pub move : ℕ → Descriptor
move size = record { pasid = 0; flags = 0; op = 3; size = size }

-- with the fence flag alone (Intel DSA: flag 0, fence)
abbrev pub fenced : Descriptor → Descriptor
fenced descriptor = record descriptor { flags = 1 }

-- ---- steps

-- the ticket of this cell and name
abbrev pub ticket : ℕ → ℕ → Ticket
ticket cell name = record { cell = record { 0 = cell }; name = name }

-- an event and the reply to it
abbrev pub step : Event → Reply → Step
step event reply = record { event = event; reply = reply }

-- client 0 writes a descriptor to a portal of a queue
abbrev pub written : ℕ → Portal → Kind → Descriptor → SubmitAnswer → Step
written queue portal kind descriptor answer = step (Submit 0 queue portal kind descriptor) (Submit answer)

-- ENQCMD to queue 0 on the limited portal with PASID 5
abbrev pub enqcmd : Descriptor → SubmitAnswer → Step
enqcmd descriptor answer = written 0 Limited (Enqcmd 5) descriptor answer

-- ENQCMD to queue 0 on the unlimited portal, with this PASID
abbrev pub enqcmd_unlimited : ℕ → Descriptor → SubmitAnswer → Step
enqcmd_unlimited pasid descriptor answer = written 0 Unlimited (Enqcmd pasid) descriptor answer

-- MOVDIR64B to queue 1
abbrev pub movdir : Descriptor → SubmitAnswer → Step
movdir descriptor answer = written 1 Limited Movdir64b descriptor answer

-- an engine asks for an entry of a queue
abbrev pub dispatched : ℕ → DispatchAnswer → Step
dispatched engine answer = step (Dispatch engine) (Dispatch answer)

-- an engine reads the next member of its batch
abbrev pub step_of_a_fetch : ℕ → Descriptor → FetchAnswer → Step
step_of_a_fetch engine descriptor answer = step (Fetch engine descriptor) (Fetch answer)

-- an engine asks to start the first member that waits
abbrev pub started : ℕ → StartAnswer → Step
started engine answer = step (Start engine) (Start answer)

-- an engine ends an entry with success
abbrev pub finished : ℕ → Ticket → FinishAnswer → Step
finished engine ticket answer = step (Finish engine ticket Success) (Finish answer)

-- an engine ends an entry with a page fault
abbrev pub faulted : ℕ → Ticket → FinishAnswer → Step
faulted engine ticket answer = step (Finish engine ticket PageFault) (Finish answer)

-- the administrator issues a command
abbrev pub issued : Command → IssueAnswer → Step
issued command answer = step (Issue command) (Issue answer)

-- the administrator asks whether the active command is over
abbrev pub polled : PollAnswer → Step
polled answer = step Poll (Poll answer)

-- the administrator reads and clears the noted error
abbrev pub cleared : ClearAnswer → Step
cleared answer = step ClearError (Clear answer)

-- the administrator configures a queue
abbrev pub step_of_a_queue_write : ℕ → QueueConfig → WriteAnswer → Step
step_of_a_queue_write queue config answer = step (WriteQueue queue config) (Write answer)

-- the administrator configures a group
abbrev pub step_of_a_group_write : ℕ → GroupConfig → WriteAnswer → Step
step_of_a_group_write group config answer = step (WriteGroup group config) (Write answer)

-- ---- the same, where what is asked for is done, or a command is refused

-- ENQCMD to queue 0 is accepted, with this cell and name
abbrev pub to_shared : Descriptor → ℕ → ℕ → Step
to_shared descriptor cell name = enqcmd descriptor (Accepted (ticket cell name))

-- MOVDIR64B to queue 1 is accepted, with this cell and name
abbrev pub to_dedicated : Descriptor → ℕ → ℕ → Step
to_dedicated descriptor cell name = movdir descriptor (Accepted (ticket cell name))

-- an engine takes the entry with this cell and name from the queue of its own number
abbrev pub step_of_a_take : ℕ → ℕ → ℕ → Step
step_of_a_take engine cell name = dispatched engine (Taken (ticket cell name) engine)

-- an engine has read a member, which has this cell and name
abbrev pub member : ℕ → Descriptor → ℕ → ℕ → Step
member engine descriptor cell name = step_of_a_fetch engine descriptor (Fetched (ticket cell name))

-- an engine starts the member with this cell and name
abbrev pub begun : ℕ → ℕ → ℕ → Step
begun engine cell name = started engine (Started (ticket cell name))

-- an engine ends the entry with this cell and name, with this status
abbrev pub ended : ℕ → ℕ → ℕ → ℕ → Step
ended engine cell name status = finished engine (ticket cell name) (Done status)

-- a command is over at once, with nothing aborted
abbrev pub obeyed : Command → Step
obeyed command = issued command (Ended 0)

-- a command is refused
abbrev pub step_of_a_refusal : Fault → Command → Step
step_of_a_refusal fault command = issued command (Refused fault)

-- one after the other is refused
abbrev pub all_refused : Fault → List Command → List Step
all_refused fault commands = map (step_of_a_refusal fault) commands

-- ---- the set-up

-- both queues and both groups are written, in this order
abbrev pub configured : QueueConfig → QueueConfig → GroupConfig → GroupConfig → List Step
configured first_queue second_queue first_group second_group =
    step_of_a_queue_write 0 first_queue Written ∷ step_of_a_queue_write 1 second_queue Written ∷
    step_of_a_group_write 0 first_group Written ∷ step_of_a_group_write 1 second_group Written ∷ []

-- the device and both queues are enabled
abbrev pub enabled : List Step
enabled = obeyed EnableDevice ∷ obeyed (EnableWq 0) ∷ obeyed (EnableWq 1) ∷ []

-- a shared and a dedicated queue, each with an engine of its own, and all of it enabled
abbrev pub setup : List Step
setup = configured shared_queue dedicated_queue first_group second_group ++ enabled

-- three shared queues and these groups are written, and all of it enabled
abbrev pub three_queues : List Step → List Step
three_queues groups =
    step_of_a_queue_write 0 shared_queue Written ∷ step_of_a_queue_write 1 shared_queue Written ∷
    step_of_a_queue_write 2 shared_queue Written ∷ groups ++ enabled ++ obeyed (EnableWq 2) ∷ []

-- the queues of this mask, of the first sixteen
abbrev pub masked : ℕ → QueueMask
masked mask = record { group = 0; mask = mask }

-- ---- what a list of steps leads to after the set-up

-- how many steps a book has room for here, which is more than come
abbrev pub room : ℕ
room = 100

-- the device may answer so
abbrev pub is_run_here : List Step → Bool
is_run_here steps = is_run caps room (setup ++ steps)

-- the device may answer so last, after another set-up and so many of these steps
abbrev pub may_answer : List Step → ℕ → List Step → Step → Bool
may_answer first count steps last = is_run caps room (first ++ take count steps ++ last ∷ [])

-- the last step may not come after these
abbrev pub may_not_follow : List Step → Step → Bool
may_not_follow steps last = not (may_follow caps room (stored_steps (setup ++ steps)) last)

-- the last step may not come after so many of these
abbrev pub wrong_after : ℕ → List Step → Step → Bool
wrong_after count steps last = may_not_follow (take count steps) last

-- the state after these steps, if they may come
abbrev pub state_after : List Step → Option State
state_after steps = replay caps (setup ++ steps)

-- the fate rows after them, in order
abbrev pub fates_after : List Step → Option (List FateRow)
fates_after steps = option_map (λ s. s.work.fates) (state_after steps)

-- all lists after them, by number
abbrev pub content_after : List Step → Option Content
content_after steps = option_map (λ s. s.work.content) (state_after steps)

-- the next name after them
abbrev pub next_name_after : List Step → Option ℕ
next_name_after steps = option_map (λ s. s.work.setup.next_name) (state_after steps)

-- the phase of the device after them, and those of the queues by number
abbrev pub phases_after : List Step → Option (Phase × List Phase)
phases_after steps = option_map (λ s. (s.work.setup.device, s.work.setup.phases)) (state_after steps)

-- the queues' configurations after them, by number
abbrev pub configs_after : List Step → Option (List QueueConfig)
configs_after steps = option_map (λ s. s.work.setup.configs) (state_after steps)

-- a name with its parent and its fate
abbrev pub row : ℕ → Option ℕ → Fate → FateRow
row name parent fate = record { name = name; parent = parent; fate = fate }

-- an entry, and a member of a batch, were ended with this status
abbrev pub completed : ℕ → ℕ → FateRow
completed name status = row name None (Completed status)

abbrev pub completed_in : ℕ → ℕ → ℕ → FateRow
completed_in batch name status = row name (Some batch) (Completed status)

-- a cell with an entry
abbrev pub held_entry : ℕ → ℕ → Option ℕ → Descriptor → ℕ → Bool → HeldEntry
held_entry cell name parent desc queue running =
    (record { 0 = cell }, record { name = name; parent = parent; desc = desc; queue = queue; running = running })

-- the lists of the device with no entry: those of its queues, what is in progress on its engines, and their members
abbrev pub no_entries : Content
no_entries = replicate 6 []

-- these entries in the list of this number
abbrev pub with_list : ℕ → List HeldEntry → Content → Content
with_list list entries content = slice_set content list entries

-- what is counted of a history: entries, those held at its end, and steps with those of the set-up
pub record Account : Type 0 where
  pub accepted : ℕ
  pub fetched : ℕ
  pub retried : ℕ
  pub done : ℕ
  pub lost : ℕ
  pub held : ℕ
  pub steps : ℕ

abbrev pub nothing_counted : Account
nothing_counted = record { accepted = 0; fetched = 0; retried = 0; done = 0; lost = 0; held = 0; steps = 0 }

-- the account after these steps
abbrev pub account_after : List Step → Option Account
account_after steps =
    option_map (λ (s : State). record {
      accepted = total_accepted steps;
      fetched = total_fetched steps;
      retried = total_retried steps;
      done = total_done steps;
      lost = total_lost steps;
      held = length (all_held s.work.content);
      steps = length (stored_steps (setup ++ steps));
    }) (state_after steps)
