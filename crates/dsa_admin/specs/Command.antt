-- Why a command is refused, and why the active one is not over.
use Rattle.std.specs.Prelude.{ℕ, not, cond, List, [], ◌∷◌, find}
use Rattle.std.specs.Prelude.{Option, Some, None, option_map}
use Rattle.dsa_base.specs.Rows.{first_row_or}
use Rattle.dsa_regs.specs.declared.{Command.{Command}, Phase.{Phase}, Deed.{Deed, TheVariants.{Enable}}}
use Rattle.dsa_regs.specs.declared.{Scope.{Scope, TheVariants.{Device, Queue}}, Fault.{Fault}}
use Rattle.dsa_regs.specs.declared.Fault.TheVariants.{BadQueue, WrongState, Busy}
use Rattle.dsa_regs.specs.declared.reasons.CheckReason.{CheckReason}
use Rattle.dsa_regs.specs.Command.{scope_of, deed_of, queues_in}
use Rattle.dsa_regs.specs.Config.{queue_at, check_fault, check_device_reason, check_queue_reason}
use Rattle.dsa_store.specs.Content.{count_where}
use Rattle.dsa_book.specs.declared.answer.IssueAnswer.{IssueAnswer, TheVariants.{Refused}}
use Rattle.dsa_book.specs.declared.answer.PollAnswer.{PollAnswer, TheVariants.{Finished, Active, Nothing}}
use Rattle.dsa_book.specs.declared.note.ActiveCommand.{ActiveCommand}
use Rattle.dsa_book.specs.State.{Setup, State, has_queue, is_on, phase_at}
use Rattle.dsa_book.specs.Commands.{issue_table, suits, command_done_of, is_at_end}
use Rattle.dsa_queues.specs.Reasons.{with_reasons}
use Rattle.dsa_admin.specs.Admin.{is_waited_for}
use Rattle.dsa_admin.specs.declared.reasons.IssueReason.{IssueReason, TheVariants.{Busy, NoQueue, WrongPhase, Check}}
use Rattle.dsa_admin.specs.declared.reasons.PollReason.{PollReason, TheVariants.{Nothing, Waits}}

-- ---- issue

-- the active command, if there is one, and how many held entries it waits for
abbrev pub busy_reason : State → Option IssueReason
busy_reason s =
    option_map (λ active. Busy active.command (count_where (is_waited_for active) s.work.content)) s.active

-- the first queue of the scope that the device does not have, if there is one
abbrev pub missing_queue : Setup → Scope → Option ℕ
missing_queue setup scope = find (λ q. not (has_queue setup q)) (queues_in scope)

-- the first queue of the scope that is not in a phase which the deed needs
abbrev pub unsuited_queue : Setup → Deed → Scope → Option ℕ
unsuited_queue setup deed scope = find (λ q. not (suits deed (phase_at setup q))) (queues_in scope)

-- where a command may not come: that queue, or none where it is the device that is not in such a phase
abbrev pub unsuited : Setup → Deed → Scope → Option ℕ
unsuited setup deed Device = None
unsuited setup deed scope = cond (is_on setup.device) (unsuited_queue setup deed scope) None

-- the phase of the queue, or of the device
abbrev pub phase_of : Setup → Option ℕ → Phase
phase_of setup None = setup.device
phase_of setup (Some queue) = phase_at setup queue

-- whose phase it is, and that phase
abbrev pub phase_reason : Setup → Option ℕ → IssueReason
phase_reason setup queue = WrongPhase queue (phase_of setup queue)

-- what the check of an enable finds of the configuration
abbrev pub found_by_check : Setup → Deed → Scope → Option CheckReason
found_by_check setup Enable Device = check_device_reason setup.caps setup.configs setup.groups
found_by_check setup Enable (Queue queue) =
    check_queue_reason setup.caps setup.groups queue (queue_at setup.configs queue)
found_by_check setup _ _ = None

-- a reason for each row of the table of commands, in its order
abbrev pub issue_reasons : State → Command → List (Option IssueReason)
issue_reasons s command =
    let setup = s.work.setup in
    busy_reason s ∷
    Some (NoQueue (missing_queue setup (scope_of command))) ∷
    Some (phase_reason setup (unsuited setup (deed_of command) (scope_of command))) ∷ []

-- the reason of the first row that stands, or else what the check finds
abbrev pub issue_reason : State → Command → Option IssueReason
issue_reason s command = first_row_or (with_reasons (issue_table s command) (issue_reasons s command))
    (option_map Check (found_by_check s.work.setup (deed_of command) (scope_of command)))

-- the fault that is answered for the reason
abbrev pub fault_of_command : IssueReason → Fault
fault_of_command (Busy active awaited) = Busy
fault_of_command (NoQueue queue) = BadQueue
fault_of_command (WrongPhase queue phase) = WrongState
fault_of_command (Check reason) = check_fault reason

-- what a command leads to by its reason: it is refused for the fault of one, and carried out without
abbrev pub issue_by : State → Command → Option IssueReason → IssueAnswer × State
issue_by s command None = command_done_of s command
issue_by s command (Some reason) = (Refused (fault_of_command reason), s)

-- ---- poll

-- no command is active, or the active one is not at its end
abbrev pub poll_reason_of : State → Option ActiveCommand → Option PollReason
poll_reason_of s None = Some Nothing
poll_reason_of s (Some active) =
    cond (is_at_end active s.work.content) None (Some (Waits (count_where (is_waited_for active) s.work.content)))

abbrev pub poll_reason : State → Option PollReason
poll_reason s = poll_reason_of s s.active

-- the answer by the reason
abbrev pub poll_answer_by : Option PollReason → PollAnswer
poll_answer_by None = Finished
poll_answer_by (Some Nothing) = Nothing
poll_answer_by (Some (Waits awaited)) = Active
