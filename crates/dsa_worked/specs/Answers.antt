-- Worked histories of answers: a choice of queues, slots and buffers of an engine, what is stored,
-- and what is of another kind.
use Rattle.std.specs.Prelude.{ℕ, Bool, true, List, [], ◌∷◌, ◌++◌}
use Rattle.dsa_regs.specs.Worked.{shared_queue, dedicated_queue, first_group}
use Rattle.dsa_regs.specs.declared.Command.TheVariants.{EnableDevice, DrainAll}
use Rattle.dsa_regs.specs.{declared.Fault.TheVariants.{Busy, BadIndex, Locked}, Config.{zero_group}}
use Rattle.dsa_book.specs.declared.answer.ClearAnswer.TheVariants.{Cleared, Nothing, Full}
use Rattle.dsa_book.specs.declared.answer.DispatchAnswer.TheVariants.{Taken, Idle, Full}
use Rattle.dsa_book.specs.declared.answer.FetchAnswer.TheVariants.{NoBatch, AllFetched, Full}
use Rattle.dsa_book.specs.declared.answer.IssueAnswer.TheVariants.{Active, Refused, Full}
use Rattle.dsa_book.specs.declared.answer.PollAnswer.TheVariants.{Finished, Active, Nothing, Full}
use Rattle.dsa_book.specs.declared.answer.StartAnswer.TheVariants.{FenceWait, NoBuffers, Abandoned, Nothing, Full}
use Rattle.dsa_book.specs.declared.answer.SubmitAnswer.TheVariants.{Accepted, Retry, Dropped, Full}
use Rattle.dsa_book.specs.declared.answer.WriteAnswer.TheVariants.{Written, Refused, Full}
use Rattle.dsa_book.specs.declared.answer.{FinishAnswer.TheVariants.{NotReady, Gone, Full}, Cause.TheVariants.{AtLimit}}
use Rattle.dsa_book.specs.declared.event.{Step.{Step}, Portal.TheVariants.{Limited}, Kind.TheVariants.{Enqcmd}}
use Rattle.dsa_worked.specs.Setup.{enabled, to_shared, to_dedicated, step_of_a_take, member, begun, ended, obeyed}
use Rattle.dsa_worked.specs.Setup.{step_of_a_refusal}
use Rattle.dsa_worked.specs.Setup.{no_op, move, batch, fenced, ticket, written, enqcmd, movdir, dispatched}
use Rattle.dsa_worked.specs.Setup.{step_of_a_fetch}
use Rattle.dsa_worked.specs.Setup.{started, finished, issued, polled, cleared, step_of_a_queue_write}
use Rattle.dsa_worked.specs.Setup.{step_of_a_group_write, configured}
use Rattle.dsa_book.specs.Machine.{is_run}
use Rattle.dsa_worked.specs.{Setup.{room, three_queues}, Batches.{three_groups}}

-- ---- a choice of queues

-- on a device of three queues and three engines: two queues with the first engine, one with the
-- second, and none with the third
abbrev pub two_queues_of_a_group : List Step
two_queues_of_a_group = three_queues (
    step_of_a_group_write 0 (record first_group { queues = 3; engines = 1 }) Written ∷
    step_of_a_group_write 1 (record first_group { queues = 4; engines = 2 }) Written ∷ [])

-- that device may answer so last, after these steps
abbrev pub may_answer_there : List Step → Step → Bool
may_answer_there steps last = is_run three_groups room (two_queues_of_a_group ++ steps ++ last ∷ [])

-- a descriptor comes to a queue, with this name and the cell of that number
abbrev comes_to : ℕ → ℕ → Step
comes_to queue name = written queue Limited (Enqcmd 5) no_op (Accepted (ticket name name))

-- two entries wait in the first queue, and one in each of the others
abbrev pub a_choice_of_queues : List Step
a_choice_of_queues = comes_to 0 0 ∷ comes_to 0 1 ∷ comes_to 1 2 ∷ comes_to 2 3 ∷ []

-- where two queues share an engine, and a batch is open: of the fronts, one is a batch and must wait
abbrev pub one_of_two_queues_waits : List Step
one_of_two_queues_waits =
    written 0 Limited (Enqcmd 5) (batch 2) (Accepted (ticket 0 0)) ∷ step_of_a_take 0 0 0 ∷
    written 0 Limited (Enqcmd 5) (batch 2) (Accepted (ticket 1 1)) ∷ dispatched 0 Idle ∷ comes_to 1 2 ∷ []

-- ---- slots and buffers

-- an engine has two slots here, and members take none
abbrev pub slots_are_full : List Step
slots_are_full =
    to_shared (batch 2) 0 0 ∷ step_of_a_take 0 0 0 ∷ member 0 no_op 1 1 ∷ to_shared no_op 2 2 ∷ to_shared no_op 3 3 ∷
    step_of_a_take 0 2 2 ∷ dispatched 0 Idle ∷ ended 0 2 2 0x01 ∷ step_of_a_take 0 3 3 ∷ []

-- both queues and both engines in one group
abbrev pub one_group : List Step
one_group = configured shared_queue dedicated_queue (record first_group { queues = 3; engines = 3 }) zero_group
    ++ enabled

-- there: the buffers that a group may use are those of both engines together
abbrev pub buffers_of_two_engines : List Step
buffers_of_two_engines =
    to_shared (move 16384) 0 0 ∷ to_shared (move 16384) 1 1 ∷ to_dedicated (move 1) 2 2 ∷
    dispatched 1 (Taken (ticket 0 0) 0) ∷ step_of_a_take 0 1 1 ∷ dispatched 0 Idle ∷ dispatched 1 Idle ∷
    ended 0 1 1 0x01 ∷
    step_of_a_take 1 2 2 ∷ []

-- engines that the device does not have have nothing to do
abbrev pub engines_that_are_not_there : List Step
engines_that_are_not_there =
    to_shared no_op 0 0 ∷ dispatched 2 Idle ∷ step_of_a_fetch 2 no_op NoBatch ∷ started 2 Nothing ∷
    finished 2 (ticket 0 0) Gone ∷ []

-- ---- what is stored

-- one step of each kind that is not stored
abbrev pub steps_not_stored : List Step
steps_not_stored =
    dispatched 0 Idle ∷ step_of_a_fetch 0 no_op NoBatch ∷ step_of_a_fetch 0 no_op AllFetched ∷ started 0 FenceWait ∷
    started 0 NoBuffers ∷ started 0 Nothing ∷ finished 0 (ticket 0 0) NotReady ∷ finished 0 (ticket 0 0) Gone ∷
    step_of_a_refusal Busy DrainAll ∷ polled Active ∷ polled Nothing ∷
    step_of_a_queue_write 2 shared_queue (Refused BadIndex) ∷
    step_of_a_group_write 0 first_group (Refused Locked) ∷ cleared Nothing ∷ enqcmd no_op Full ∷ dispatched 0 Full ∷
    step_of_a_fetch 0 no_op Full ∷ started 0 Full ∷ finished 0 (ticket 0 0) Full ∷ issued DrainAll Full ∷ polled Full ∷
    step_of_a_queue_write 0 shared_queue Full ∷ step_of_a_group_write 0 first_group Full ∷ cleared Full ∷ []

-- and one of each kind that is
abbrev pub steps_stored : List Step
steps_stored =
    to_shared no_op 0 0 ∷ enqcmd no_op (Retry AtLimit) ∷ movdir no_op (Dropped AtLimit) ∷ step_of_a_take 0 0 0 ∷
    member 0 no_op 0 0 ∷ begun 0 0 0 ∷ started 0 (Abandoned 1) ∷ ended 0 0 0 0x01 ∷ obeyed DrainAll ∷
    issued DrainAll Active ∷ polled Finished ∷ step_of_a_queue_write 0 shared_queue Written ∷
    step_of_a_group_write 0 first_group Written ∷
    cleared (Cleared (record { queue = 0; cause = AtLimit; overflow = true })) ∷ []

-- stored steps, 17 with the set-up, and among them steps that are not, for which there is always room
abbrev pub room_for_steps_not_stored : List Step
room_for_steps_not_stored =
    dispatched 0 Idle ∷ step_of_a_fetch 0 no_op NoBatch ∷ started 0 Nothing ∷ polled Nothing ∷ cleared Nothing ∷
    to_shared (batch 2) 0 0 ∷ step_of_a_take 0 0 0 ∷ issued DrainAll Active ∷ step_of_a_refusal Busy EnableDevice ∷
    polled Active ∷
    member 0 no_op 1 1 ∷ member 0 (fenced no_op) 2 2 ∷ step_of_a_fetch 0 no_op AllFetched ∷ begun 0 1 1 ∷
    started 0 FenceWait ∷
    finished 0 (ticket 0 0) NotReady ∷ finished 0 (ticket 3 0) Gone ∷
    step_of_a_queue_write 2 shared_queue (Refused BadIndex) ∷
    ended 0 1 1 0x01 ∷ begun 0 2 2 ∷ ended 0 2 2 0x01 ∷ polled Active ∷ ended 0 0 0 0x01 ∷ polled Full ∷ []

-- each event, at a history that is full
abbrev pub each_event_is_full : List Step
each_event_is_full =
    enqcmd no_op Full ∷ movdir no_op Full ∷ dispatched 0 Full ∷ step_of_a_fetch 0 no_op Full ∷ started 0 Full ∷
    finished 0 (ticket 0 0) Full ∷ issued DrainAll Full ∷ polled Full ∷ step_of_a_queue_write 0 shared_queue Full ∷
    step_of_a_group_write 0 first_group Full ∷ cleared Full ∷ []
