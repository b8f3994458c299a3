-- What a drain or a disable waits for.
use Rattle.dsa_book.specs.declared.answer.IssueAnswer.TheVariants as issued
use Rattle.std.specs.Prelude.{Bool, true, false, not, cond, ◌&&◌, nat_le, Option, Some, None}
use Rattle.std.specs.Option.{option_map}
use Rattle.dsa_regs.specs.declared.{Command.{Command}, Deed.{Deed, TheVariants.{Disable, Drain}}}
use Rattle.dsa_regs.specs.Command.{deed_of, scope_of}
use Rattle.dsa_regs.specs.declared.layout.ListUse.{ListUse, TheVariants.{Queue}}
use Rattle.dsa_store.specs.{declared.entry.Entry.{Entry}, Content.{count_where}}
use Rattle.dsa_book.specs.declared.{answer.IssueAnswer.{IssueAnswer}, note.ActiveCommand.{ActiveCommand}}
use Rattle.dsa_book.specs.{State.{State}, Commands.{issue}}
use Rattle.dsa_admin.specs.Admin.{is_awaited_by, is_counting, is_waited_for, names_queues}
use Rattle.dsa_explain.specs.declared.awaiting.WaitReason.{WaitReason}
use Rattle.dsa_explain.specs.Held.{first_awaited}

-- what keeps a command that is noted so from its end: how many held entries it waits for, and the first
abbrev pub wait_by : Option ActiveCommand → State → Option WaitReason
wait_by noted s = option_map
    (λ first. record { awaited = count_where (is_awaited_by noted) s.work.content; first = first })
    (first_awaited noted s)

-- what keeps the active command from its end
abbrev pub wait_of_active : State → Option WaitReason
wait_of_active s = wait_by s.active s

-- neither this entry of a queue is waited for nor any after it: of a scope of queues, where this one
-- is not, and else where it is past the mark of a drain
abbrev pub is_late : ActiveCommand → ListUse → Entry → Bool
is_late noted (Queue q) entry = cond (names_queues (scope_of noted.command))
    (not (is_waited_for noted entry))
    (is_counting (deed_of noted.command) && nat_le noted.mark entry.name)
is_late noted list entry = false

-- the command as it is noted where it is answered active: a drain waits for names that were given before
abbrev pub noted_as : State → Command → ActiveCommand
noted_as s command = record { command = command; mark = s.work.setup.next_name }

-- a disable and a drain wait for what is held, where there is any
abbrev pub is_waiting : Deed → Bool
is_waiting Disable = true
is_waiting Drain = true
is_waiting deed = false

abbrev pub is_active_answer : IssueAnswer → Bool
is_active_answer issued.Active = true
is_active_answer answer = false

-- what the command waits for, where it is answered active
abbrev pub wait_reason : State → Command → Option WaitReason
wait_reason s command = cond (is_active_answer (issue s command).0) (wait_by (Some (noted_as s command)) s) None
