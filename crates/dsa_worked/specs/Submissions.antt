-- Worked histories of submissions, each after the set-up.
use Rattle.std.specs.Prelude.{true, false, List, [], ◌∷◌}
use Rattle.dsa_regs.specs.Worked.{shared_queue, dedicated_queue, first_group, second_group}
use Rattle.dsa_regs.specs.declared.Command.TheVariants.{EnableDevice, DisableWq, EnableWq}
use Rattle.dsa_book.specs.declared.answer.Cause.TheVariants.{AtLimit, NotEnabled, WrongKind}
use Rattle.dsa_book.specs.declared.answer.SubmitAnswer.TheVariants.{Accepted, Retry, Dropped, Full}
use Rattle.dsa_book.specs.declared.answer.{ClearAnswer.TheVariants.{Cleared, Nothing}, IssueAnswer.TheVariants.{Full}}
use Rattle.dsa_book.specs.declared.answer.{FinishAnswer.TheVariants.{Gone, Full}, DispatchAnswer.TheVariants.{Full}}
use Rattle.dsa_book.specs.declared.answer.{WriteAnswer.TheVariants.{Full}, PollAnswer.TheVariants.{Full}}
use Rattle.dsa_book.specs.declared.event.{Portal.TheVariants.{Limited, Unlimited}, Kind.TheVariants.{Enqcmd, Movdir64b}}
use Rattle.dsa_book.specs.declared.{event.{Event.TheVariants.{Submit}, Step.{Step}}, answer.Reply.TheVariants.{Submit}}
use Rattle.dsa_worked.specs.Setup.{dispatched, finished, issued, polled, cleared, step_of_a_queue_write}
use Rattle.dsa_worked.specs.Setup.{step_of_a_group_write, step_of_a_take}
use Rattle.dsa_worked.specs.Setup.{no_op, drain, move, fenced, ticket, step, written, enqcmd, enqcmd_unlimited, movdir}
use Rattle.dsa_worked.specs.Setup.{to_shared, to_dedicated, ended, obeyed, masked}

-- a Move from its submission to its status
abbrev pub one_move : List Step
one_move =
    to_shared (move 4096) 0 0 ∷ step_of_a_take 0 0 0 ∷ ended 0 0 0 0x01 ∷ []

-- the threshold bounds the limited portal, the size the unlimited one, and a taken entry makes room
abbrev pub two_portals : List Step
two_portals =
    to_shared no_op 0 0 ∷ to_shared no_op 1 1 ∷ enqcmd no_op (Retry AtLimit) ∷
    enqcmd_unlimited 5 no_op (Accepted (ticket 2 2)) ∷ enqcmd_unlimited 5 no_op (Accepted (ticket 3 3)) ∷
    enqcmd_unlimited 5 no_op (Retry AtLimit) ∷ step_of_a_take 0 0 0 ∷ enqcmd no_op (Retry AtLimit) ∷
    enqcmd_unlimited 5 no_op (Accepted (ticket 4 4)) ∷ []

-- a dedicated queue that is full drops descriptors, and the noted error overflows
abbrev pub dedicated_queue_overflows : List Step
dedicated_queue_overflows =
    to_dedicated no_op 0 0 ∷ to_dedicated no_op 1 1 ∷ movdir no_op (Dropped AtLimit) ∷ movdir no_op (Dropped AtLimit) ∷
    cleared (Cleared (record { queue = 1; cause = AtLimit; overflow = true })) ∷ cleared Nothing ∷
    movdir no_op (Dropped AtLimit) ∷ cleared (Cleared (record { queue = 1; cause = AtLimit; overflow = false })) ∷ []

-- each cause for which a submission is turned away, but for the limit
abbrev pub causes_of_retry : List Step
causes_of_retry =
    written 1 Limited (Enqcmd 5) no_op (Retry WrongKind) ∷ written 0 Limited Movdir64b no_op (Dropped WrongKind) ∷
    obeyed (DisableWq (masked 1)) ∷ enqcmd no_op (Retry NotEnabled) ∷
    written 9 Limited (Enqcmd 5) no_op (Retry NotEnabled) ∷ []

-- the noted error is of the first descriptor that was dropped
abbrev pub first_drop_is_noted : List Step
first_drop_is_noted =
    written 1 Limited (Enqcmd 5) no_op (Retry WrongKind) ∷ written 0 Limited Movdir64b no_op (Dropped WrongKind) ∷
    written 9 Limited (Enqcmd 5) no_op (Retry NotEnabled) ∷ written 9 Limited Movdir64b no_op (Dropped NotEnabled) ∷
    cleared (Cleared (record { queue = 0; cause = WrongKind; overflow = true })) ∷ []

-- sizes of 0 and above the limit, which is 2 ^ 20 bytes here
abbrev pub transfer_sizes : List Step
transfer_sizes =
    to_shared (move 0) 0 0 ∷ step_of_a_take 0 0 0 ∷ ended 0 0 0 0x13 ∷ to_shared (move 1048576) 0 1 ∷
    step_of_a_take 0 0 1 ∷
    ended 0 0 1 0x01 ∷ to_shared (move 1048577) 0 2 ∷ step_of_a_take 0 0 2 ∷ ended 0 0 2 0x13 ∷ []

-- a Drain, a fence outside a batch, flags that are ignored, and an operation that is not supported
abbrev pub operations_and_flags : List Step
operations_and_flags =
    to_shared drain 0 0 ∷ step_of_a_take 0 0 0 ∷ ended 0 0 0 0x01 ∷ to_shared (fenced no_op) 0 1 ∷
    step_of_a_take 0 0 1 ∷
    ended 0 0 1 0x11 ∷ to_shared (record (move 4096) { flags = 0x0c }) 0 2 ∷ step_of_a_take 0 0 2 ∷ ended 0 0 2 0x01 ∷
    to_shared (record no_op { op = 0xff }) 0 3 ∷ step_of_a_take 0 0 3 ∷ ended 0 0 3 0x10 ∷ []

-- a history of 10 steps, of which the set-up took 7
abbrev pub history_is_full : List Step
history_is_full =
    enqcmd_unlimited 5 no_op (Accepted (ticket 0 0)) ∷ enqcmd_unlimited 5 no_op (Accepted (ticket 1 1)) ∷
    enqcmd_unlimited 5 no_op (Accepted (ticket 2 2)) ∷ enqcmd_unlimited 5 no_op Full ∷ dispatched 0 Full ∷
    polled Full ∷ []

-- a device with no room for any step: the set-up and a Move
abbrev pub no_room_at_all : List Step
no_room_at_all =
    step_of_a_queue_write 0 shared_queue Full ∷ step_of_a_queue_write 1 dedicated_queue Full ∷
    step_of_a_group_write 0 first_group Full ∷
    step_of_a_group_write 1 second_group Full ∷ issued EnableDevice Full ∷ issued (EnableWq 0) Full ∷
    issued (EnableWq 1) Full ∷
    enqcmd (move 4096) Full ∷ dispatched 0 Full ∷ finished 0 (ticket 0 0) Full ∷ []

-- tickets that name no running entry of the engine: one that waits, one of another engine, other cells and names
abbrev pub forged_tickets : List Step
forged_tickets =
    to_shared no_op 0 0 ∷ finished 0 (ticket 0 0) Gone ∷ step_of_a_take 0 0 0 ∷ finished 1 (ticket 0 0) Gone ∷
    finished 0 (ticket 65535 0) Gone ∷ finished 0 (ticket 0 4294967295) Gone ∷ []

-- two clients' submissions, of which the first's are the first and the third
abbrev pub of_two_clients : List Step
of_two_clients =
    step (Submit 0 0 Limited (Enqcmd 5) no_op) (Submit (Accepted (ticket 0 0))) ∷
    step (Submit 1 0 Limited (Enqcmd 5) no_op) (Submit (Accepted (ticket 1 1))) ∷
    step (Submit 0 0 Unlimited (Enqcmd 5) no_op) (Submit (Accepted (ticket 2 2))) ∷ []
