-- Histories of a device with three queues, two engines and one group, whose states have equal keys or do not.
use Rattle.std.specs.Prelude.{ℕ, List, [], ◌∷◌, ◌++◌, Option, option_map, option_and_then}
use Rattle.dsa_desc.specs.declared.{Descriptor.{Descriptor}, Outcome.TheVariants.{Success}}
use Rattle.dsa_regs.specs.Worked.{first_group}
use Rattle.dsa_book.specs.declared.event.{Step.{Step}, Portal.TheVariants.{Limited}, Kind.TheVariants.{Enqcmd}}
use Rattle.dsa_book.specs.declared.event.Event.TheVariants.{Fetch, Finish, Poll}
use Rattle.dsa_book.specs.declared.answer.Reply.TheVariants as reply
use Rattle.dsa_book.specs.declared.answer.{FetchAnswer.TheVariants.{Fetched}, FinishAnswer.TheVariants.{Done}}
use Rattle.dsa_book.specs.declared.answer.PollAnswer.TheVariants.{Active}
use Rattle.dsa_book.specs.declared.answer.{Reply.{Reply}, SubmitAnswer.TheVariants.{Accepted}}
use Rattle.dsa_book.specs.declared.answer.{DispatchAnswer.TheVariants.{Taken}, WriteAnswer.TheVariants.{Written}}
use Rattle.dsa_book.specs.{State.{State}, Machine.{replay}}
use Rattle.dsa_worked.specs.Setup.{no_op, drain, ticket, written, dispatched, ended, step_of_a_group_write}
use Rattle.dsa_worked.specs.Setup.{three_queues}
use Rattle.dsa_worked.specs.Uneven.{three_two_one}
use Rattle.dsa_keys.specs.{Labels.{Labels}, Key.{Key, key}, Steps.{next_by_label}, Replays.{LabelledStep}}

-- three shared queues and both engines are of one group, and all of it enabled
abbrev pub all_in_one : List Step
all_in_one = three_queues (step_of_a_group_write 0 (record first_group { queues = 7; engines = 3 }) Written ∷ [])

-- a queue accepts ENQCMD, with this cell and name
abbrev pub accepts : ℕ → Descriptor → ℕ → ℕ → Step
accepts queue descriptor cell name = written queue Limited (Enqcmd 5) descriptor (Accepted (ticket cell name))

-- an engine takes the entry with this cell and name from a queue
abbrev pub takes_from : ℕ → ℕ → ℕ → ℕ → Step
takes_from queue engine cell name = dispatched engine (Taken (ticket cell name) queue)

-- an entry comes to queue 0, and then one to queue 2
abbrev pub one_way : List Step
one_way = all_in_one ++ accepts 0 no_op 0 0 ∷ accepts 2 no_op 1 1 ∷ []

-- the other way round, in other cells, and after an entry that has ended
abbrev pub other_way : List Step
other_way = all_in_one ++ accepts 0 no_op 4 0 ∷ takes_from 0 0 4 0 ∷ ended 0 4 0 0x01 ∷ accepts 2 no_op 3 1 ∷
    accepts 0 no_op 2 2 ∷ []

-- a No-op comes to queue 0 before a Drain, and each runs on an engine of its own
abbrev pub drain_behind : List Step
drain_behind = all_in_one ++ accepts 0 no_op 0 0 ∷ accepts 0 drain 1 1 ∷ takes_from 0 1 0 0 ∷ takes_from 0 0 1 1 ∷ []

-- the same in other cells, and after an entry that has ended
abbrev pub drain_behind_elsewhere : List Step
drain_behind_elsewhere = all_in_one ++ accepts 0 no_op 0 0 ∷ takes_from 0 0 0 0 ∷ ended 0 0 0 0x01 ∷
    accepts 0 no_op 6 1 ∷ accepts 0 drain 3 2 ∷ takes_from 0 1 6 1 ∷ takes_from 0 0 3 2 ∷ []

-- the Drain comes before the No-op
abbrev pub drain_before : List Step
drain_before = all_in_one ++ accepts 0 drain 0 0 ∷ accepts 0 no_op 1 1 ∷ takes_from 0 0 0 0 ∷ takes_from 0 1 1 1 ∷ []

-- ---- steps by labels

-- engine 0 fetches a No-op, which has this cell and name, and the label
abbrev pub fetched_as : ℕ → ℕ → ℕ → LabelledStep
fetched_as cell name label =
    record { event = Fetch 0 no_op; reply = reply.Fetch (Fetched (ticket cell name)); label = label }

-- engine 0 ends the entry with the first label, while the second is fresh
abbrev pub ended_as : ℕ → ℕ → LabelledStep
ended_as ended label =
    record { event = Finish 0 (ticket 0 ended) Success; reply = reply.Finish (Done 1); label = label }

-- a poll finds the command active, while the label is fresh
abbrev pub polled_as : ℕ → LabelledStep
polled_as label = record { event = Poll; reply = reply.Poll Active; label = label }

-- the No-op ends on engine 1, and then the Drain on engine 0
abbrev pub two_ends : List LabelledStep
two_ends =
    record { event = Finish 1 (ticket 0 5) Success; reply = reply.Finish (Done 1); label = 7 } ∷ ended_as 6 8 ∷ []

-- ---- what they lead to

-- the key of the state that the steps lead to
abbrev pub key_there : Labels → List Step → Option Key
key_there labels steps = option_map (key labels) (replay three_two_one steps)

-- the state after engine 0 ends the entry with this label, with this reply
abbrev pub ended_there : Labels → List Step → ℕ → Reply → Option State
ended_there labels steps label reply = option_and_then
    (λ s. next_by_label labels s (Finish 0 (ticket 0 label) Success) reply) (replay three_two_one steps)
