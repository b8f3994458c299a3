-- Commands, configuration and the noted error: the administrator's steps.
use Rattle.std.specs.Prelude.{ℕ, Bool, true, false, not, cond, ◌&&◌, ◌||◌, ◌==◌, nat_lt, nat_le, List, ◌∷◌, ◌++◌, map}
use Rattle.std.specs.{Prelude.{length, filter, slice_set, Option, Some, None, is_some, []}, List.{list_any, list_all}}
use Rattle.dsa_base.specs.{Rows.{first_row_or}, Numbers.{numbers_below}}
use Rattle.dsa_regs.specs.Command.{number_of_command, scope_of, deed_of, queues_in}
use Rattle.dsa_regs.specs.Config.{zero_queue, queue_at, check_device, check_queue}
use Rattle.dsa_regs.specs.declared.Fault.{Fault, TheVariants.{BadQueue, Locked, WrongState, Busy, BadIndex}}
use Rattle.dsa_regs.specs.declared.{Deed.{Deed, TheVariants.{Enable, Disable, Abort, Reset}}, QueueConfig.{QueueConfig}}
use Rattle.dsa_regs.specs.declared.{Phase.{Phase, TheVariants.{Off, On, Stopping}}, Command.{Command}}
use Rattle.dsa_regs.specs.declared.{Scope.{Scope, TheVariants.{Device, Queue, Pasid}}, GroupConfig.{GroupConfig}}
use Rattle.dsa_store.specs.{declared.entry.Entry.{Entry}, Content.{HeldEntry, Content, chain, all_held, only_where}}
use Rattle.dsa_book.specs.State.{Setup, Work, State, is_on, is_off, is_member, is_batch_of, phase_at, has_queue}
use Rattle.dsa_book.specs.declared.answer.ClearAnswer.{ClearAnswer, TheVariants.{Cleared, Nothing}}
use Rattle.dsa_book.specs.declared.answer.IssueAnswer.{IssueAnswer, TheVariants.{Ended, Active, Refused}}
use Rattle.dsa_book.specs.declared.answer.PollAnswer.{PollAnswer, TheVariants.{Finished, Active, Nothing}}
use Rattle.dsa_book.specs.declared.answer.WriteAnswer.{WriteAnswer, TheVariants.{Written, Refused}}
use Rattle.dsa_book.specs.declared.note.{BatchNote.{BatchNote}, ActiveCommand.{ActiveCommand}}
use Rattle.dsa_book.specs.declared.{fate.Fate.TheVariants.{Aborted}, answer.NotedError.{NotedError}}
use Rattle.dsa_book.specs.{Work.{progress_list, note_at, fate_row}, State.{opening_setup, holds_any}}

-- ---- scopes

-- whether the queue is among these
abbrev pub is_among : List ℕ → ℕ → Bool
is_among queues q = list_any (λ k. k == q) queues

-- the entries of a scope: all, those of the queues that it names, or those of one PASID (profile)
abbrev pub is_in_scope : Scope → Entry → Bool
is_in_scope Device entry = true
is_in_scope (Pasid pasid) entry = entry.desc.pasid == pasid
is_in_scope scope entry = is_among (queues_in scope) entry.queue

-- ---- ends

-- the entries that keep a command from its end: of a drain's scope what was submitted before it
-- (Intel DSA: drain commands), and all of a disable's (profile)
abbrev pub is_awaited : Deed → Scope → ℕ → Entry → Bool
is_awaited Disable scope mark entry = is_in_scope scope entry
is_awaited _ scope mark entry = is_in_scope scope entry && not (is_member entry) && nat_lt entry.name mark

-- a command is at its end when nothing is held that it waits for (profile)
abbrev pub is_at_end : ActiveCommand → Content → Bool
is_at_end active content = not (holds_any
    (is_awaited (deed_of active.command) (scope_of active.command) active.mark) content)

-- ---- phases and configurations

-- with this phase of the queues that pass
abbrev pub with_phases : (ℕ → Bool) → Phase → Setup → Setup
with_phases test phase setup =
    record setup { phases = map (λ q. cond (test q) phase (phase_at setup q)) (numbers_below setup.caps.queues) }

-- with this phase of the device
abbrev pub with_device : Phase → Setup → Setup
with_device phase setup = record setup { device = phase }

-- a disable brings the device with its queues, or the queues that it names, to this phase; other
-- deeds stop nothing (profile)
abbrev pub after_stop : Deed → Scope → Phase → Setup → Setup
after_stop Disable Device phase setup =
    with_device phase (with_phases (λ q. not (is_off (phase_at setup q))) phase setup)
after_stop Disable scope phase setup = with_phases (is_among (queues_in scope)) phase setup
after_stop _ scope phase setup = setup

-- Enable Device has the device On, and Enable WQ its queue (profile)
abbrev pub after_enable : Scope → Setup → Setup
after_enable Device setup = with_device On setup
after_enable (Queue queue) setup = with_phases (λ q. q == queue) On setup
after_enable _ setup = setup

-- all zero but the size (profile)
abbrev pub size_alone : QueueConfig → QueueConfig
size_alone config = record zero_queue { size = config.size }

-- with these queues all zero but for their sizes
abbrev pub with_sizes_alone : List ℕ → Setup → Setup
with_sizes_alone queues setup =
    record setup {
      configs = map (λ q. cond (is_among queues q) (size_alone (queue_at setup.configs q))
          (queue_at setup.configs q)) (numbers_below setup.caps.queues);
    }

-- Reset Device has all zero and Off again, and the names that were given are not given again; Reset
-- WQ has its queues Off, with their sizes alone (profile)
abbrev pub reset : Scope → Setup → Setup
reset Device setup = record (opening_setup setup.caps) { next_name = setup.next_name }
reset scope setup = with_sizes_alone (queues_in scope) (with_phases (is_among (queues_in scope)) Off setup)

-- ---- abort

-- whether a well-formed Batch among these is in the scope
abbrev pub takes_batch : Setup → Scope → List HeldEntry → Bool
takes_batch setup scope xs = list_any (λ pair. is_batch_of setup pair.1 && is_in_scope scope pair.1) xs

-- the note of an engine goes with a well-formed Batch that is in progress there (profile)
abbrev pub kept_note : Setup → Scope → List HeldEntry → Option BatchNote → Option BatchNote
kept_note setup scope xs note = cond (takes_batch setup scope xs) None note

-- what the scope holds ends by the command of this number, list by list and each front first; the
-- rest keeps its order (profile)
abbrev pub after_abort : ℕ → Scope → Work → Work
after_abort number scope w =
    record w {
      content = only_where (λ entry. not (is_in_scope scope entry)) w.content;
      notes = map (λ e. kept_note w.setup scope (chain w.content (progress_list w.setup e)) (note_at w e))
          (numbers_below w.setup.caps.engines);
      fates = w.fates ++ map (fate_row (Aborted number))
          (filter (λ pair. is_in_scope scope pair.1) (all_held w.content));
    }

-- how many entries the scope holds
abbrev pub count_in_scope : Scope → Content → ℕ
count_in_scope scope content = length (filter (λ pair. is_in_scope scope pair.1) (all_held content))

-- ---- issue

-- a scope of queues that names none, or one that the device does not have (profile)
abbrev pub is_bad_queues : Setup → Scope → Bool
is_bad_queues setup Device = false
is_bad_queues setup (Pasid pasid) = false
is_bad_queues setup scope = nat_le (length (queues_in scope)) 0 || not (list_all (has_queue setup) (queues_in scope))

-- the phase in which a deed finds the device or a queue: an enable Off, a reset any, all else On (profile)
abbrev pub suits : Deed → Phase → Bool
suits Enable phase = is_off phase
suits Reset phase = true
suits _ phase = is_on phase

-- the device stands as the deed needs, or it is On and so do the queues that are named (profile)
abbrev pub may_come : Setup → Deed → Scope → Bool
may_come setup deed Device = suits deed setup.device
may_come setup deed scope = is_on setup.device && list_all (λ q. suits deed (phase_at setup q)) (queues_in scope)

-- what the configuration has against it (profile)
abbrev pub check_of : Setup → Deed → Scope → Option Fault
check_of setup Enable Device = check_device setup.caps setup.configs setup.groups
check_of setup Enable (Queue queue) = check_queue setup.caps setup.groups queue (queue_at setup.configs queue)
check_of setup _ _ = None

-- with this set-up
abbrev pub work_with_setup : Work → Setup → Work
work_with_setup w setup = record w { setup = setup }

-- the command is over, and so many entries were aborted
abbrev pub end_at_once : State → ℕ → Work → IssueAnswer × State
end_at_once s n w = (Ended n, record s { work = w })

-- what the scope holds ends, and the set-up changes so (profile)
abbrev pub abort_of : State → ℕ → Scope → (Setup → Setup) → IssueAnswer × State
abort_of s number scope change =
    let w = after_abort number scope s.work in
    end_at_once s (count_in_scope scope s.work.content) (work_with_setup w (change w.setup))

-- the command ends at once where nothing is to be waited for, else it is active from here on (profile)
abbrev pub wait_of : State → Command → IssueAnswer × State
wait_of s command =
    let active : ActiveCommand = record { command = command; mark = s.work.setup.next_name } in
    let stop = after_stop (deed_of command) (scope_of command) in
    cond (is_at_end active s.work.content)
    (end_at_once s 0 (work_with_setup s.work (stop Off s.work.setup)))
    (Active, record { work = work_with_setup s.work (stop Stopping s.work.setup); active = Some active })

-- what each deed does with a scope; the command is what it is active by, and what it aborts by (profile)
abbrev pub deed_done_of : State → Command → Deed → Scope → IssueAnswer × State
deed_done_of s command Enable scope = end_at_once s 0 (work_with_setup s.work (after_enable scope s.work.setup))
deed_done_of s command Abort scope = abort_of s (number_of_command command) scope (λ setup. setup)
deed_done_of s command Reset scope = abort_of s (number_of_command command) scope (reset scope)
deed_done_of s command _ scope = wait_of s command

-- what a command does (profile)
abbrev pub command_done_of : State → Command → IssueAnswer × State
command_done_of s command = deed_done_of s command (deed_of command) (scope_of command)

-- a fault of the check refuses the command, and nothing changes (profile)
abbrev pub refusal_or : State → Option Fault → IssueAnswer × State → IssueAnswer × State
refusal_or s None done = done
refusal_or s (Some fault) done = (Refused fault, s)

-- what refuses a command before its check, in this order (profile)
abbrev pub issue_table : State → Command → List (Bool × (IssueAnswer × State))
issue_table s command =
    (is_some s.active, (Refused Busy, s)) ∷
    (is_bad_queues s.work.setup (scope_of command), (Refused BadQueue, s)) ∷
    (not (may_come s.work.setup (deed_of command) (scope_of command)), (Refused WrongState, s)) ∷ []

-- the answer to a command and what it leaves: the first refusal that stands, or its effect (profile)
abbrev pub issue : State → Command → IssueAnswer × State
issue s command = first_row_or (issue_table s command)
    (refusal_or s (check_of s.work.setup (deed_of command) (scope_of command)) (command_done_of s command))

-- ---- poll

-- a command is over when its end stands (profile)
abbrev pub poll_of : State → Option ActiveCommand → PollAnswer × State
poll_of s None = (Nothing, s)
poll_of s (Some active) =
    cond (is_at_end active s.work.content) (
      Finished,
      record {
        work = work_with_setup s.work
            (after_stop (deed_of active.command) (scope_of active.command) Off s.work.setup);
        active = None;
      },
    )
    (Active, s)

-- the answer to one who asks after the active command, and what it leaves (profile)
abbrev pub poll : State → PollAnswer × State
poll s = poll_of s s.active

-- ---- writes and clear, which see the queues' layer alone

-- what refuses a queue's configuration, in this order: it is locked while the queue is not Off, its
-- size while the device is not (profile)
abbrev pub write_queue_table : Setup → ℕ → QueueConfig → List (Bool × (WriteAnswer × Setup))
write_queue_table setup q config =
    (not (has_queue setup q), (Refused BadIndex, setup)) ∷
    (not (is_off (phase_at setup q)), (Refused Locked, setup)) ∷
    (not (is_off setup.device) && not (config.size == (queue_at setup.configs q).size), (Refused Locked, setup)) ∷ []

-- the answer to a write of a queue's configuration and what it leaves; its values are checked when
-- it is enabled (profile)
abbrev pub write_queue : Setup → ℕ → QueueConfig → WriteAnswer × Setup
write_queue setup q config =
    first_row_or (write_queue_table setup q config)
    (Written, record setup { configs = slice_set setup.configs q config })

-- what refuses a group's configuration, in this order: it is locked while the device is not Off (profile)
abbrev pub write_group_table : Setup → ℕ → List (Bool × (WriteAnswer × Setup))
write_group_table setup g =
    (not (nat_lt g setup.caps.groups), (Refused BadIndex, setup)) ∷
    (not (is_off setup.device), (Refused Locked, setup)) ∷ []

-- the answer to a write of a group's configuration and what it leaves (profile)
abbrev pub write_group : Setup → ℕ → GroupConfig → WriteAnswer × Setup
write_group setup g config =
    first_row_or (write_group_table setup g) (Written, record setup { groups = slice_set setup.groups g config })

-- the noted error goes, where there is one (profile)
abbrev pub clear_of : Setup → Option NotedError → ClearAnswer × Setup
clear_of setup None = (Nothing, setup)
clear_of setup (Some noted) = (Cleared noted, record setup { noted = None })

-- the answer to one who clears the noted error, and what it leaves (profile)
abbrev pub clear : Setup → ClearAnswer × Setup
clear setup = clear_of setup setup.noted
