-- A command is refused for the fault of its reason, and one who asks is answered by the reason.
use Rattle.dsa_book.specs.declared.answer.IssueAnswer.TheVariants as issued
use Rattle.dsa_book.specs.declared.answer.PollAnswer.TheVariants as answered
use Rattle.std.proofs.Common.{◌≡◌, ℕ, Bool, true, false, not, List, [], ◌∷◌, Option, None, Some, is_some, option_map, refl}
use Rattle.std.proofs.Common.{sym, ap, ◌∙◌, zero, suc, ◌==◌, ◌&&◌, cond, find, length, is_none, arith, nat_le, inl, inr}
use Rattle.std.proofs.lemmas.Bool.{cases_Bool}
use Rattle.std.specs.{List.{list_all}, Option.{option_or}}
use Rattle.dsa_base.specs.Rows.{first_row_or, when}
use Rattle.dsa_regs.specs.declared.Fault.TheVariants as fault
use Rattle.dsa_regs.specs.declared.{Command.{Command}, Phase.{Phase}}
use Rattle.dsa_regs.specs.declared.Deed.{Deed, TheVariants.{Enable, Disable, Drain, Abort, Reset}}
use Rattle.dsa_regs.specs.declared.Scope.{Scope, TheVariants.{Device, Queue, Queues, Pasid}}
use Rattle.dsa_regs.specs.declared.reasons.CheckReason.{CheckReason}
use Rattle.dsa_regs.{specs.Command.{scope_of, deed_of}, proofs.Places.{row-map}}
use Rattle.dsa_regs.specs.Config.{queue_at, total_size, check_fault, groups_rules, queue_rules}
use Rattle.dsa_book.specs.declared.{answer.IssueAnswer.{IssueAnswer}, note.ActiveCommand.{ActiveCommand}}
use Rattle.dsa_book.specs.{State.{Setup, State, has_queue}, Commands.{issue, refusal_or, check_of, command_done_of}}
use Rattle.dsa_book.specs.Commands.{is_at_end, is_bad_queues, may_come, poll, poll_of}
use Rattle.dsa_book.specs.declared.answer.PollAnswer.{PollAnswer}
use Rattle.dsa_store.specs.Content.{count_where}
use Rattle.dsa_admin.{specs.Admin.{is_waited_for, names_bad_queue}, proofs.Counting.{held-none}}
use Rattle.dsa_admin.specs.declared.reasons.IssueReason.{IssueReason, TheVariants.{Busy, NoQueue, WrongPhase, Check}}
use Rattle.dsa_admin.specs.declared.reasons.PollReason.{PollReason, TheVariants.{Nothing, Waits}}
use Rattle.dsa_admin.specs.Command.{fault_of_command, issue_reason, issue_by, found_by_check, missing_queue}
use Rattle.dsa_admin.specs.Command.{unsuited, phase_of, phase_reason, poll_answer_by, poll_reason, poll_reason_of}

-- ---- the queues that a command names

-- all pass exactly where none is found that does not
pub all_found : (p : ℕ → Bool) (l : List ℕ) → list_all p l ≡ is_none (find (λ x. not (p x)) l)
all_found p [] = refl
all_found p (x ∷ l) =
    elim (cases_Bool (p x)) [
      | inl hit ↦ rw hit (all_found p l)
      | inr miss ↦ rw miss refl
    ]

-- no queue is named
pub none_named : (setup : Setup) (l : List ℕ) → length l ≡ 0
    → when (names_bad_queue setup l) (NoQueue (find (λ q. not (has_queue setup q)) l)) ≡ Some (NoQueue None)
none_named setup [] h = refl
none_named setup (x ∷ l) h = absurd (omega (arith, h))

-- the device has each that is named
pub all_known : (setup : Setup) (l : List ℕ) (r : IssueReason) → nat_le (length l) 0 ≡ false
    → find (λ q. not (has_queue setup q)) l ≡ None → when (names_bad_queue setup l) r ≡ None
all_known setup l r some none = rw (some, all_found (has_queue setup) l, none) refl

-- or it has not
pub one_missing : (setup : Setup) (l : List ℕ) (q : ℕ) → nat_le (length l) 0 ≡ false
    → find (λ q. not (has_queue setup q)) l ≡ Some q
    → when (names_bad_queue setup l) (NoQueue (find (λ q. not (has_queue setup q)) l)) ≡ Some (NoQueue (Some q))
one_missing setup l q some found = rw (some, all_found (has_queue setup) l, found) refl

-- each that is named stands as it has to, where the device is On
pub all_stand : (p : ℕ → Bool) (l : List ℕ) (on : Bool) (r : IssueReason) → on ≡ true
    → find (λ q. not (p q)) l ≡ None → when (not (on && list_all p l)) r ≡ None
all_stand p l on r is none = rw (is, all_found p l, none) refl

-- or one does not
pub one_stands_not : (p : ℕ → Bool) (l : List ℕ) (on : Bool) (r : IssueReason) (q : ℕ) → on ≡ true
    → find (λ q. not (p q)) l ≡ Some q → when (not (on && list_all p l)) r ≡ Some r
one_stands_not p l on r q is found = rw (is, all_found p l, found) refl

-- ---- the fault of the reason

-- the check answers the fault of what it finds
faulted : (setup : Setup) (deed : Deed) (scope : Scope)
    → check_of setup deed scope ≡ option_map check_fault (found_by_check setup deed scope)
faulted setup Enable Device = sym (row-map check_fault (groups_rules setup.caps (total_size setup.configs) setup.groups))
faulted setup Enable (Queue queue) =
    sym (row-map check_fault (queue_rules setup.caps setup.groups queue (queue_at setup.configs queue)))
faulted setup Enable (Queues queues) = refl
faulted setup Enable (Pasid pasid) = refl
faulted setup Disable scope = refl
faulted setup Drain scope = refl
faulted setup Abort scope = refl
faulted setup Reset scope = refl

-- by the command that is active, the two rows behind it, and what the check finds
by_rows : (s : State) (command : Command) (count : ActiveCommand → ℕ) (queue unfit : Option ℕ) (phase : Phase)
    (active : Option ActiveCommand) (bad wrong : Bool) (found : Option CheckReason)
    → first_row_or {X = IssueAnswer × State} ((is_some active, (issued.Refused fault.Busy, s)) ∷
    (bad, (issued.Refused fault.BadQueue, s)) ∷ (wrong, (issued.Refused fault.WrongState, s)) ∷ [])
    (refusal_or s (option_map check_fault found) (command_done_of s command))
    ≡ issue_by s command (first_row_or {X = Option IssueReason} ((
      is_some active,
      option_map
          (λ (a : ActiveCommand). Busy a.command (count a)) active,
    ) ∷
    (bad, Some (NoQueue queue)) ∷ (wrong, Some (WrongPhase unfit phase)) ∷ []) (option_map Check found))
by_rows s command count queue unfit phase (Some active) bad wrong found = refl
by_rows s command count queue unfit phase None true wrong found = refl
by_rows s command count queue unfit phase None false true found = refl
by_rows s command count queue unfit phase None false false (Some reason) = refl
by_rows s command count queue unfit phase None false false None = refl

pub refused_by_reason : (s : State) (command : Command) → issue s command ≡ issue_by s command (issue_reason s command)
refused_by_reason s command =
    let setup = s.work.setup in
    let queue = unsuited setup (deed_of command) (scope_of command) in
    rw (faulted setup (deed_of command) (scope_of command))
    (by_rows s command (λ active. count_where (is_waited_for active) s.work.content)
    (missing_queue setup (scope_of command)) queue (phase_of setup queue) s.active
    (is_bad_queues setup (scope_of command)) (not (may_come setup (deed_of command) (scope_of command)))
    (found_by_check setup (deed_of command) (scope_of command)))

pub refused : (s : State) (command : Command) (reason : IssueReason) → issue_reason s command ≡ Some reason
    → issue s command ≡ (issued.Refused (fault_of_command reason), s)
refused s command reason is = refused_by_reason s command ∙ ap (issue_by s command) is

-- while none is active: the phase that the command does not need, or what the check finds
pub idle_reason : (s : State) (command : Command) (wrong : Option IssueReason) (found : Option CheckReason)
    → s.active ≡ None
    → when (is_bad_queues s.work.setup (scope_of command)) (NoQueue (missing_queue s.work.setup (scope_of command)))
    ≡ None
    → when (not (may_come s.work.setup (deed_of command) (scope_of command)))
    (phase_reason s.work.setup (unsuited s.work.setup (deed_of command) (scope_of command))) ≡ wrong
    → found_by_check s.work.setup (deed_of command) (scope_of command) ≡ found
    → issue_reason s command ≡ option_or wrong (option_map Check found)
idle_reason s command wrong found idle known phases checked =
    go (is_some s.active) (is_bad_queues s.work.setup (scope_of command))
    (not (may_come s.work.setup (deed_of command) (scope_of command))) _ _ _ _ (ap is_some idle) known
    ∙ rw (phases, checked) refl
  where
    go : (busy bad unfit : Bool) (x : Option IssueReason) (y z : IssueReason) (last : Option IssueReason)
        → busy ≡ false → when bad y ≡ None
        → first_row_or ((busy, x) ∷ (bad, Some y) ∷ (unfit, Some z) ∷ []) last ≡ option_or (when unfit z) last
    go true bad unfit x y z last h none = absurd cc
    go false true unfit x y z last h none = absurd cc
    go false false true x y z last h none = refl
    go false false false x y z last h none = refl

-- ---- the end of the active command

-- one who asks is answered by the reason
pub poll_refused : (s : State) (reason : PollReason) → poll_reason s ≡ Some reason
    → poll s ≡ (poll_answer_by (Some reason), s)
poll_refused s reason is = by_active s.active is
  where
    by_end : (b : Bool) (n : ℕ) (over : State) → cond b None (Some (Waits n)) ≡ Some reason
        → cond {A = PollAnswer × State} b (answered.Finished, over) (answered.Active, s)
        ≡ (poll_answer_by (Some reason), s)
    by_end true n over is = absurd cc
    by_end false n over is = let same : Waits n ≡ reason = cc in rw (← same) refl

    by_active : (o : Option ActiveCommand) → poll_reason_of s o ≡ Some reason
        → poll_of s o ≡ (poll_answer_by (Some reason), s)
    by_active None is = let same : Nothing ≡ reason = cc in rw (← same) refl
    by_active (Some active) is = by_end (is_at_end active s.work.content) _ _ is

-- where there is none the active command is at its end
pub poll_end : (s : State) (active : ActiveCommand) → s.active ≡ Some active → poll_reason s ≡ None
    → is_at_end active s.work.content ≡ true
poll_end s active is none = by_end (is_at_end active s.work.content) _ (rw is at none)
  where
    by_end : (b : Bool) (r : PollReason) → cond b None (Some r) ≡ None → b ≡ true
    by_end true r h = refl
    by_end false r h = absurd cc

-- the active command is not over while it waits for one
ends : (s : State) (active : ActiveCommand) (n : ℕ) → count_where (is_waited_for active) s.work.content ≡ n
    → is_at_end active s.work.content ≡ (n == 0)
ends s active n is = rw (← is) (sym (held-none (is_waited_for active) s.work.content))

pub poll_told : (s : State) (o : Option ActiveCommand) (n : ℕ)
    → option_map (λ (active : ActiveCommand). count_where (is_waited_for active) s.work.content) o ≡ Some n
    → poll_reason_of s o ≡ cond (n == 0) None (Some (Waits n))
poll_told s None n is = absurd cc
poll_told s (Some active) n is =
    let count : count_where (is_waited_for active) s.work.content ≡ n = cc in
    rw (ends s active n count, count) refl

pub waits : (n : ℕ) → (n ≡ 0 → ⊥) → cond (n == 0) None (Some (Waits n)) ≡ Some (Waits n)
waits zero some = absurd (some refl)
waits (suc n) some = grind arith
