-- Worked histories of commands and configurations, each after the set-up where it does not say otherwise.
use Rattle.std.specs.Prelude.{Bool, List, [], ◌∷◌, ◌++◌}
use Rattle.dsa_regs.specs.declared.Command.TheVariants.{EnableDevice, DisableDevice, DrainAll, AbortAll, ResetDevice}
use Rattle.dsa_regs.specs.declared.Command.TheVariants.{EnableWq, DisableWq, DrainWq, AbortWq, ResetWq, DrainPasid}
use Rattle.dsa_regs.specs.declared.Fault.TheVariants.{Busy, PriorityZero, PriorityTooLarge, ThresholdZero, Locked}
use Rattle.dsa_regs.specs.declared.Fault.TheVariants.{ThresholdAboveSize, WrongState, BadQueue, BadIndex}
use Rattle.dsa_regs.specs.declared.{Command.TheVariants.{AbortPasid}, QueueConfig.{QueueConfig}, Fault.{Fault}}
use Rattle.dsa_regs.specs.{declared.GroupConfig.{GroupConfig}, Worked.{caps, shared_queue, first_group}}
use Rattle.dsa_book.specs.declared.answer.IssueAnswer.TheVariants.{Ended, Active, Refused}
use Rattle.dsa_book.specs.declared.answer.PollAnswer.TheVariants.{Finished, Active, Nothing}
use Rattle.dsa_book.specs.declared.answer.{FetchAnswer.TheVariants.{NoBatch}, ClearAnswer.TheVariants.{Nothing}}
use Rattle.dsa_book.specs.declared.answer.{SubmitAnswer.TheVariants.{Accepted, Retry}, FinishAnswer.TheVariants.{Gone}}
use Rattle.dsa_book.specs.declared.answer.{WriteAnswer.TheVariants.{Written, Refused}, Cause.TheVariants.{NotEnabled}}
use Rattle.dsa_book.specs.declared.event.{Step.{Step}, Portal.TheVariants.{Limited}, Kind.TheVariants.{Enqcmd}}
use Rattle.dsa_worked.specs.Setup.{no_op, batch, ticket, written, enqcmd, enqcmd_unlimited, step_of_a_fetch, finished}
use Rattle.dsa_book.specs.Machine.{is_run}
use Rattle.dsa_worked.specs.Setup.{issued, room}
use Rattle.dsa_worked.specs.Setup.{polled, cleared, step_of_a_queue_write, step_of_a_group_write, configured, setup}
use Rattle.dsa_worked.specs.Setup.{to_shared, step_of_a_take}
use Rattle.dsa_worked.specs.Setup.{to_dedicated, member, begun, ended, obeyed, step_of_a_refusal, masked}

-- a drain of queue 0 waits for what was submitted before it, and for nothing else
abbrev pub drain_of_a_queue : List Step
drain_of_a_queue =
    to_shared no_op 0 0 ∷ issued (DrainWq (masked 1)) Active ∷ step_of_a_refusal Busy DrainAll ∷ to_shared no_op 1 1 ∷
    polled Active ∷ step_of_a_take 0 0 0 ∷ ended 0 0 0 0x01 ∷ polled Finished ∷ polled Nothing ∷ []

-- a drain waits for a batch, not for its members
abbrev pub drain_of_a_batch : List Step
drain_of_a_batch =
    to_shared no_op 0 0 ∷ to_shared (batch 2) 1 1 ∷ step_of_a_take 0 0 0 ∷ step_of_a_take 0 1 1 ∷ member 0 no_op 2 2 ∷
    issued (DrainWq (masked 1)) Active ∷ ended 0 0 0 0x01 ∷ polled Active ∷ begun 0 2 2 ∷ ended 0 2 2 0x01 ∷
    polled Active ∷ member 0 no_op 0 3 ∷ begun 0 0 3 ∷ ended 0 0 3 0x01 ∷ ended 0 1 1 0x01 ∷ polled Finished ∷ []

-- a drain of a PASID waits for entries of that PASID
abbrev pub drain_of_a_pasid : List Step
drain_of_a_pasid =
    enqcmd_unlimited 5 no_op (Accepted (ticket 0 0)) ∷ enqcmd_unlimited 6 no_op (Accepted (ticket 1 1)) ∷
    obeyed (DrainPasid 7) ∷ issued (DrainPasid 5) Active ∷ step_of_a_take 0 0 0 ∷ polled Active ∷ ended 0 0 0 0x01 ∷
    polled Finished ∷ []

-- an abort of a PASID takes its entries, and the others keep their order
abbrev pub abort_of_a_pasid : List Step
abort_of_a_pasid =
    enqcmd_unlimited 5 no_op (Accepted (ticket 0 0)) ∷ enqcmd_unlimited 6 no_op (Accepted (ticket 1 1)) ∷
    enqcmd_unlimited 5 no_op (Accepted (ticket 2 2)) ∷ enqcmd_unlimited 6 no_op (Accepted (ticket 3 3)) ∷
    issued (AbortPasid 5) (Ended 2) ∷ step_of_a_take 0 1 1 ∷ step_of_a_take 0 3 3 ∷ []

-- an abort of a PASID takes a batch with its members, which have its PASID
abbrev pub abort_takes_members : List Step
abort_takes_members =
    to_shared (batch 3) 0 0 ∷ written 0 Limited (Enqcmd 6) no_op (Accepted (ticket 1 1)) ∷ step_of_a_take 0 0 0 ∷
    step_of_a_take 0 1 1 ∷
    member 0 no_op 2 2 ∷ member 0 no_op 3 3 ∷ begun 0 2 2 ∷ issued (AbortPasid 5) (Ended 3) ∷
    finished 0 (ticket 2 2) Gone ∷ step_of_a_fetch 0 no_op NoBatch ∷ ended 0 1 1 0x01 ∷ []

-- with the batch its engine's note went, so that the engine takes another
abbrev pub batch_after_an_abort : List Step
batch_after_an_abort =
    to_shared (batch 3) 0 0 ∷ step_of_a_take 0 0 0 ∷ issued AbortAll (Ended 1) ∷ to_shared (batch 2) 0 1 ∷
    step_of_a_take 0 0 1 ∷
    member 0 no_op 1 2 ∷ []

-- a ticket of an entry that was aborted does not end the entry that stands in its cell now
abbrev pub old_ticket_is_gone : List Step
old_ticket_is_gone =
    to_shared no_op 0 0 ∷ step_of_a_take 0 0 0 ∷ issued AbortAll (Ended 1) ∷ to_shared no_op 0 1 ∷
    step_of_a_take 0 0 1 ∷
    finished 0 (ticket 0 0) Gone ∷ ended 0 0 1 0x01 ∷ []

-- an abort of two queues, and a reset of the device
abbrev pub abort_and_reset : List Step
abort_and_reset =
    to_shared no_op 0 0 ∷ to_dedicated no_op 1 1 ∷ issued (AbortWq (masked 3)) (Ended 2) ∷ to_shared no_op 0 2 ∷
    issued ResetDevice (Ended 1) ∷ cleared Nothing ∷ enqcmd no_op (Retry NotEnabled) ∷ []

-- after a reset and the set-up again, names go on where they stood
abbrev pub names_go_on_after_a_reset : List Step
names_go_on_after_a_reset = abort_and_reset ++ setup ++ to_shared no_op 0 3 ∷ []

-- a reset of a queue leaves its size alone
abbrev pub reset_of_a_queue : List Step
reset_of_a_queue =
    to_shared no_op 0 0 ∷ issued (ResetWq (masked 1)) (Ended 1) ∷ step_of_a_refusal PriorityZero (EnableWq 0) ∷ []

-- a disable waits until nothing is held, and the queue is to be enabled again
abbrev pub disable_and_enable_again : List Step
disable_and_enable_again =
    to_shared no_op 0 0 ∷ issued DisableDevice Active ∷ enqcmd no_op (Retry NotEnabled) ∷ step_of_a_take 0 0 0 ∷
    ended 0 0 0 0x01 ∷ polled Finished ∷ obeyed EnableDevice ∷ enqcmd no_op (Retry NotEnabled) ∷ obeyed (EnableWq 0) ∷
    to_shared no_op 0 1 ∷ []

-- why Enable WQ is refused, and writes that come too late
abbrev pub refused_enables_and_writes : List Step
refused_enables_and_writes =
    obeyed (DisableWq (masked 1)) ∷ step_of_a_queue_write 0 (record shared_queue { threshold = 0 }) Written ∷
    step_of_a_refusal ThresholdZero (EnableWq 0) ∷ step_of_a_queue_write 0 (record shared_queue { threshold = 5 })
    Written ∷
    step_of_a_refusal ThresholdAboveSize (EnableWq 0) ∷
    step_of_a_queue_write 0 (record shared_queue { threshold = 4 }) Written ∷
    obeyed (EnableWq 0) ∷ step_of_a_queue_write 0 shared_queue (Refused Locked) ∷
    step_of_a_group_write 0 first_group (Refused Locked) ∷
    step_of_a_refusal WrongState EnableDevice ∷ []

-- priority 16 is refused, and priority 15 is not
abbrev pub priorities : List Step
priorities =
    obeyed (DisableWq (masked 1)) ∷ step_of_a_queue_write 0 (record shared_queue { priority = 16 }) Written ∷
    step_of_a_refusal PriorityTooLarge (EnableWq 0) ∷ step_of_a_queue_write 0 (record shared_queue { priority = 15 })
    Written ∷
    obeyed (EnableWq 0) ∷ []

-- masks and queues that the device does not have: no bit, another sixteen, bit 2, queue 2
abbrev pub queues_that_are_not_there : List Step
queues_that_are_not_there =
    step_of_a_refusal BadQueue (DisableWq (masked 0)) ∷
    step_of_a_refusal BadQueue (DisableWq (record { group = 1; mask = 1 })) ∷
    step_of_a_refusal BadQueue (DisableWq (masked 4)) ∷ step_of_a_refusal BadQueue (EnableWq 2) ∷
    step_of_a_queue_write 2 shared_queue (Refused BadIndex) ∷ step_of_a_group_write 2 first_group (Refused BadIndex)
    ∷ []

-- not after the set-up: with these configurations Enable Device may be refused for this
abbrev pub refuses_device : QueueConfig → GroupConfig → GroupConfig → Fault → Bool
refuses_device second_queue first second fault =
    is_run caps room (configured shared_queue second_queue first second ++ step_of_a_refusal fault EnableDevice ∷ [])
