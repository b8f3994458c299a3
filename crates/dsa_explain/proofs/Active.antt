-- What is answered active waits for an entry, and what is not waits for none.
use Rattle.dsa_book.specs.declared.answer.IssueAnswer.TheVariants as issued
use Rattle.std.proofs.Common.{◌≡◌, Bool, true, false, not, cond, [], ◌∷◌, Option, Some, None, refl, sym, ap, ◌∙◌}
use Rattle.std.proofs.Common.{arith, inl, inr}
use Rattle.std.proofs.lemmas.{Bool.{cases_Bool}, Grind.{common_steps}}
use Rattle.std.specs.{Prelude.{is_some}, List.{list_any}}
use Rattle.dsa_base.specs.Rows.{first_row_or}
use Rattle.dsa_regs.specs.declared.{Command.{Command}, Deed.{Deed, TheVariants.{Enable, Disable, Drain, Abort, Reset}}}
use Rattle.dsa_regs.specs.declared.{Scope.{Scope}, Fault.{Fault, TheVariants.{BadQueue, WrongState, Busy}}}
use Rattle.dsa_regs.specs.{declared.Phase.TheVariants.{Stopping}, Command.{scope_of, deed_of}}
use Rattle.dsa_store.specs.{declared.entry.Entry.{Entry}, Content.{HeldEntry, count_where}}
use Rattle.dsa_book.specs.declared.{answer.IssueAnswer.{IssueAnswer}, note.ActiveCommand.{ActiveCommand}}
use Rattle.dsa_book.specs.State.{State}
use Rattle.dsa_book.specs.Commands.{issue, refusal_or, check_of, command_done_of, deed_done_of, wait_of}
use Rattle.dsa_book.specs.Commands.{is_at_end, is_bad_queues, may_come}
use Rattle.dsa_admin.specs.{Admin.{is_waited_for}, declared.reasons.IssueReason.{IssueReason}, Command.{issue_by}}
use Rattle.dsa_admin.proofs.Counting.{stop-caps}
use Rattle.dsa_explain.specs.declared.held.ListedEntry.{ListedEntry}
use Rattle.dsa_explain.specs.Wait.{is_active_answer, is_waiting, noted_as, wait_by, wait_reason, wait_of_active}
use Rattle.dsa_explain.specs.Held.{all_entries, first_awaited}
use Rattle.dsa_engines.proofs.Rows.{some-map}
use Rattle.dsa_explain.proofs.Holding.{all-told, find-any}

-- a command is at its end exactly where the first entry that it waits for is none
pub first-there : (s : State) (noted : ActiveCommand)
    → is_some (first_awaited (Some noted) s) ≡ not (is_at_end noted s.work.content)
first-there s noted =
    let told = find-any (λ (e : Entry). is_waited_for noted e) (all_entries s)
    ∙ ap (list_any (λ (pair : HeldEntry). is_waited_for noted pair.1)) (all-told s.work.setup.caps 0 s.work.content) in
    grind (arith, common_steps, told)

-- what is answered active was refused by no row and by no check
done : (s : State) (c : Command) → is_active_answer (issue s c).0 ≡ true → issue s c ≡ command_done_of s c
done s c = go (is_some s.active) (is_bad_queues s.work.setup (scope_of c))
    (not (may_come s.work.setup (deed_of c) (scope_of c))) (check_of s.work.setup (deed_of c) (scope_of c))
    (command_done_of s c)
  where
    go : (busy bad wrong : Bool) (fault : Option Fault) (after : IssueAnswer × State)
        → is_active_answer (first_row_or {X = IssueAnswer × State} ((busy, (issued.Refused Busy, s)) ∷
        (bad, (issued.Refused BadQueue, s)) ∷ (wrong, (issued.Refused WrongState, s)) ∷ [])
        (refusal_or s fault after)).0 ≡ true
        → first_row_or {X = IssueAnswer × State} ((busy, (issued.Refused Busy, s)) ∷
        (bad, (issued.Refused BadQueue, s)) ∷ (wrong, (issued.Refused WrongState, s)) ∷ [])
        (refusal_or s fault after) ≡ after
    go true bad wrong fault after h = absurd cc
    go false true wrong fault after h = absurd cc
    go false false true fault after h = absurd cc
    go false false false (Some fault) after h = absurd cc
    go false false false None after h = refl

-- and is a drain or a disable
waiting : (s : State) (c : Command) (deed : Deed) (scope : Scope)
    → is_active_answer (deed_done_of s c deed scope).0 ≡ true → deed_done_of s c deed scope ≡ wait_of s c
waiting s c Enable scope h = absurd cc
waiting s c Abort scope h = absurd cc
waiting s c Reset scope h = absurd cc
waiting s c Disable scope h = refl
waiting s c Drain scope h = refl

waits : (s : State) (c : Command) (deed : Deed) (scope : Scope) → is_waiting deed ≡ true
    → deed_done_of s c deed scope ≡ wait_of s c
waits s c Enable scope h = absurd cc
waits s c Abort scope h = absurd cc
waits s c Reset scope h = absurd cc
waits s c Disable scope h = refl
waits s c Drain scope h = refl

-- one that waits is answered active exactly where it is not at its end
active-before : (s : State) (c : Command)
    → is_active_answer (wait_of s c).0 ≡ not (is_at_end (noted_as s c) s.work.content)
active-before s c = go (is_at_end (noted_as s c) s.work.content) _ _
  where
    go : (b : Bool) (over on : State)
        → is_active_answer (cond {A = IssueAnswer × State} b (issued.Ended 0, over) (issued.Active, on)).0 ≡ not b
    go true over on = refl
    go false over on = refl

is-wait : (s : State) (c : Command) → is_active_answer (issue s c).0 ≡ true → issue s c ≡ wait_of s c
is-wait s c h =
    let by = done s c h in
    by ∙ waiting s c (deed_of c) (scope_of c) (rw (← by) h)

no-end : (s : State) (c : Command) → is_active_answer (issue s c).0 ≡ true
    → not (is_at_end (noted_as s c) s.work.content) ≡ true
no-end s c h = sym (active-before s c) ∙ rw (← is-wait s c h) h

-- where it is answered active there is an entry, and so it is told
pub told : (s : State) (c : Command) → is_active_answer (issue s c).0 ≡ is_some (wait_reason s c)
told s c =
    elim (cases_Bool (is_active_answer (issue s c).0)) [
      | inl is ↦
          rw is (sym (some-map _ (first_awaited (Some (noted_as s c)) s) ∙ first-there s (noted_as s c)
          ∙ no-end s c is))
      | inr not ↦ rw not refl
    ]

-- and what it waits for is what the active command of the state after it does
after-wait : (s : State) (c : Command) → is_at_end (noted_as s c) s.work.content ≡ false
    → wait_of_active (wait_of s c).1 ≡ wait_by (Some (noted_as s c)) s
after-wait s c on = rw (on, stop-caps (deed_of c) (scope_of c) Stopping s.work.setup) refl

told-by : (s : State) (c : Command) → is_active_answer (issue s c).0 ≡ true
    → wait_reason s c ≡ wait_by (Some (noted_as s c)) s
told-by s c h = rw h refl

not-true : (b : Bool) → not b ≡ true → b ≡ false
not-true true h = absurd cc
not-true false h = refl

pub kept : (s : State) (c : Command) → is_active_answer (issue s c).0 ≡ true
    → wait_of_active (issue s c).1 ≡ wait_reason s c
kept s c h =
    ap (λ (r : IssueAnswer × State). wait_of_active r.1) (is-wait s c h)
    ∙ after-wait s c (not-true _ (no-end s c h)) ∙ sym (told-by s c h)

-- ---- by the reason of a refusal

pub some-first : (s : State) (c : Command) (r : Option IssueReason) (first : ListedEntry) → issue s c ≡ issue_by s c r
    → is_some r ≡ false → is_waiting (deed_of c) ≡ true → first_awaited (Some (noted_as s c)) s ≡ Some first
    → wait_reason s c
    ≡ Some (record { awaited = count_where (is_waited_for (noted_as s c)) s.work.content; first = first })
some-first s c (Some r) first law h deed is = absurd cc
some-first s c None first law h deed is =
    let by = law ∙ waits s c (deed_of c) (scope_of c) deed in
    let on = sym (first-there s (noted_as s c)) ∙ ap is_some is in
    let active = ap (λ (r : IssueAnswer × State). is_active_answer r.0) by ∙ active-before s c ∙ on in
    told-by s c active ∙ rw is refl
