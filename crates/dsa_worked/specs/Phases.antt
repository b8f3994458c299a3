-- Worked histories of phases: which commands may come where, what they do to one queue of two, resets, and writes.
use Rattle.std.specs.Prelude.{List, [], ◌∷◌, ◌++◌}
use Rattle.dsa_regs.specs.Worked.{shared_queue, dedicated_queue, first_group}
use Rattle.dsa_regs.specs.declared.Command.TheVariants.{AbortPasid}
use Rattle.dsa_regs.specs.declared.Command.TheVariants.{EnableDevice, DisableDevice, DrainAll, AbortAll, ResetDevice}
use Rattle.dsa_regs.specs.declared.Command.TheVariants.{EnableWq, DisableWq, DrainWq, AbortWq, ResetWq, DrainPasid}
use Rattle.dsa_regs.specs.declared.Fault.TheVariants.{Busy, SizeZero, Locked, NoGroup, WrongState, BadQueue, BadIndex}
use Rattle.dsa_book.specs.declared.answer.IssueAnswer.TheVariants.{Ended, Active, Refused}
use Rattle.dsa_book.specs.declared.answer.{Cause.TheVariants.{AtLimit, NotEnabled}, SubmitAnswer.TheVariants.{Dropped}}
use Rattle.dsa_book.specs.declared.answer.{PollAnswer.TheVariants.{Finished, Active}, ClearAnswer.TheVariants.{Nothing}}
use Rattle.dsa_book.specs.declared.{answer.WriteAnswer.TheVariants.{Written, Refused}, event.Step.{Step}}
use Rattle.dsa_worked.specs.Setup.{no_op, masked, movdir, issued, polled, cleared, step_of_a_queue_write}
use Rattle.dsa_worked.specs.Setup.{step_of_a_group_write, step_of_a_take}
use Rattle.dsa_worked.specs.Setup.{to_shared, to_dedicated, ended, obeyed, step_of_a_refusal, all_refused}

-- ---- which commands may come

-- not after the set-up: of a device that is Off, all commands but its enable and its reset are refused
abbrev pub commands_while_off : List Step
commands_while_off =
    all_refused WrongState (
    DisableDevice ∷ DrainAll ∷ AbortAll ∷ EnableWq 0 ∷ DisableWq (masked 1) ∷ DrainWq (masked 1)
    ∷ AbortWq (masked 1) ∷ ResetWq (masked 1) ∷ DrainPasid 5 ∷ AbortPasid 5 ∷ []
    ) ++ all_refused BadQueue (EnableWq 2 ∷ DrainWq (masked 0) ∷ []) ++ obeyed ResetDevice ∷ obeyed EnableDevice ∷
    step_of_a_refusal SizeZero (EnableWq 0) ∷ []

-- an enable of a queue that is On, and commands of queue 1 while it is Off, alone and beside queue 0
abbrev pub commands_of_a_queue_that_is_off : List Step
commands_of_a_queue_that_is_off =
    step_of_a_refusal WrongState (EnableWq 0) ∷ obeyed (DisableWq (masked 2)) ∷ all_refused WrongState (
    DisableWq (masked 2) ∷ DrainWq (masked 2) ∷ AbortWq (masked 2)
    ∷ DisableWq (masked 3) ∷ DrainWq (masked 3) ∷ AbortWq (masked 3) ∷ []
    ) ++ obeyed (ResetWq (masked 2)) ∷ obeyed (ResetWq (masked 3)) ∷ []

-- masks with no bit, and with one queue that the device has and one that it has not
abbrev pub masks_with_a_missing_queue : List Step
masks_with_a_missing_queue = all_refused BadQueue (
    DisableWq (masked 5) ∷ DrainWq (masked 5) ∷ AbortWq (masked 5) ∷ ResetWq (masked 5)
    ∷ DrainWq (masked 0) ∷ AbortWq (masked 0) ∷ ResetWq (masked 0) ∷ [])

-- while a command is active, all others are refused for that, whatever else stands against them
abbrev pub commands_while_busy : List Step
commands_while_busy =
    to_shared no_op 0 0 ∷ issued DrainAll Active ∷ all_refused Busy (
    ResetDevice ∷ AbortAll ∷ ResetWq (masked 1) ∷ DrainWq (masked 0) ∷ EnableDevice ∷ DisableDevice ∷ []
    ) ++ polled Active ∷ []

-- ---- one queue of two

-- a drain of one queue does not wait for the other, and leaves both On; then another command may come
abbrev pub drain_of_one_queue_of_two : List Step
drain_of_one_queue_of_two =
    to_dedicated no_op 0 0 ∷ obeyed (DrainWq (masked 1)) ∷ to_shared no_op 1 1 ∷ issued (DrainWq (masked 2)) Active ∷
    step_of_a_take 1 0 0 ∷ polled Active ∷ ended 1 0 0 0x01 ∷ polled Finished ∷ obeyed (DrainWq (masked 2)) ∷
    issued DrainAll Active ∷ step_of_a_take 0 1 1 ∷ ended 0 1 1 0x01 ∷ polled Finished ∷ []

-- an abort of one queue leaves the entries of the other
abbrev pub abort_of_one_queue_of_two : List Step
abort_of_one_queue_of_two =
    to_shared no_op 0 0 ∷ to_dedicated no_op 1 1 ∷ to_dedicated no_op 2 2 ∷ step_of_a_take 1 1 1 ∷
    issued (AbortWq (masked 2)) (Ended 2) ∷ to_dedicated no_op 1 3 ∷ []

-- a disable of one queue waits for what it holds, and the other goes on; then it is Off until it is enabled
abbrev pub disable_of_one_queue_of_two : List Step
disable_of_one_queue_of_two =
    to_shared no_op 0 0 ∷ to_dedicated no_op 1 1 ∷ issued (DisableWq (masked 2)) Active ∷
    movdir no_op (Dropped NotEnabled) ∷ to_shared no_op 2 2 ∷ step_of_a_queue_write 1 dedicated_queue (Refused Locked) ∷
    step_of_a_take 1 1 1 ∷ polled Active ∷ ended 1 1 1 0x01 ∷ polled Finished ∷
    step_of_a_queue_write 1 dedicated_queue Written ∷
    obeyed (EnableWq 1) ∷ to_dedicated no_op 1 3 ∷ []

-- both queues are Off, and one of them is enabled
abbrev pub enable_of_one_queue_of_two : List Step
enable_of_one_queue_of_two =
    obeyed (DisableWq (masked 3)) ∷ obeyed (EnableWq 1) ∷ []

-- a disable of the device stops the queue that is On, and leaves the one that is Off; what may be
-- written meanwhile and after it
abbrev pub disable_with_a_queue_that_is_off : List Step
disable_with_a_queue_that_is_off =
    to_shared no_op 0 0 ∷ obeyed (DisableWq (masked 2)) ∷ issued DisableDevice Active ∷
    step_of_a_queue_write 0 shared_queue (Refused Locked) ∷
    step_of_a_queue_write 1 (record dedicated_queue { size = 1 }) (Refused Locked) ∷
    step_of_a_queue_write 1 (record dedicated_queue { pasid = 8 }) Written ∷
    step_of_a_group_write 0 first_group (Refused Locked) ∷
    step_of_a_take 0 0 0 ∷ polled Active ∷ ended 0 0 0 0x01 ∷ polled Finished ∷
    step_of_a_queue_write 1 (record dedicated_queue { size = 1 }) Written ∷
    step_of_a_group_write 0 first_group Written ∷
    step_of_a_refusal WrongState (EnableWq 0) ∷ []

-- ---- resets

-- a reset clears the noted error and all configuration, and may come again while the device is Off
abbrev pub reset_of_all : List Step
reset_of_all =
    to_dedicated no_op 0 0 ∷ to_dedicated no_op 1 1 ∷ movdir no_op (Dropped AtLimit) ∷ issued ResetDevice (Ended 2) ∷
    cleared Nothing ∷ movdir no_op (Dropped NotEnabled) ∷ obeyed ResetDevice ∷ cleared Nothing ∷
    step_of_a_queue_write 0 shared_queue Written ∷ obeyed EnableDevice ∷ step_of_a_refusal SizeZero (EnableWq 1) ∷
    step_of_a_refusal NoGroup (EnableWq 0) ∷ []

-- a reset of one queue keeps its size alone, which stays locked, and leaves the other queue as it was
abbrev pub reset_of_one_queue_of_two : List Step
reset_of_one_queue_of_two =
    to_shared no_op 0 0 ∷ to_dedicated no_op 1 1 ∷ issued (ResetWq (masked 1)) (Ended 1) ∷ to_dedicated no_op 0 2 ∷
    step_of_a_queue_write 0 (record shared_queue { size = 3 }) (Refused Locked) ∷
    step_of_a_queue_write 0 shared_queue Written ∷
    obeyed (EnableWq 0) ∷ to_shared no_op 2 3 ∷ []

-- ---- writes

-- not after the set-up: what may be written while the device is Off, and what is refused after its enable
abbrev pub writes_and_locks : List Step
writes_and_locks =
    step_of_a_queue_write 0 (record shared_queue { size = 9 }) Written ∷ step_of_a_queue_write 0 shared_queue Written ∷
    step_of_a_queue_write 2 shared_queue (Refused BadIndex) ∷ step_of_a_group_write 0 first_group Written ∷
    step_of_a_group_write 2 first_group (Refused BadIndex) ∷ obeyed EnableDevice ∷
    step_of_a_queue_write 0 (record shared_queue { size = 3 }) (Refused Locked) ∷
    step_of_a_queue_write 0 (record shared_queue { threshold = 3 }) Written ∷
    step_of_a_queue_write 2 shared_queue (Refused BadIndex) ∷
    step_of_a_group_write 0 first_group (Refused Locked) ∷ step_of_a_group_write 2 first_group (Refused BadIndex) ∷
    obeyed (EnableWq 0) ∷ step_of_a_queue_write 0 (record shared_queue { threshold = 3 }) (Refused Locked) ∷ []
