-- Every change is made by some step that may come.
use Rattle.std.proofs.Common.{◌≡◌, ◌⊎◌, inl, inr, ◌∷◌, [], ℕ, Bool, true, false, not, cond, Some, None, refl}
use Rattle.std.proofs.Common.{ap, arith, ◌∙◌}
use Rattle.std.{proofs.lemmas.Bool.{le-leb, le-ltb}, specs.Prelude.{is_some, length}}
use Rattle.dsa_base.specs.Rows.{first_row_or}
use Rattle.dsa_desc.specs.{declared.Descriptor.{Descriptor}, Descriptor.{read}}
use Rattle.dsa_regs.specs.{Command.{deed_of, scope_of}, Config.{zero_queue}}
use Rattle.dsa_regs.specs.declared.{Phase.TheVariants.{Off, Stopping}, Deed.{Deed, TheVariants.{Disable, Drain, Abort, Reset}}, Command.{Command}}
use Rattle.dsa_regs.specs.declared.{Command.TheVariants.{EnableDevice, EnableWq}, Fault.TheVariants.{BadIndex}}
use Rattle.dsa_book.specs.declared.answer.SubmitAnswer.{TheVariants.{Accepted, Dropped}}
use Rattle.dsa_book.specs.declared.answer.Cause.{Cause, TheVariants.{NotEnabled, WrongKind, AtLimit}}
use Rattle.dsa_book.specs.declared.answer.{DispatchAnswer.TheVariants.{Taken}, FetchAnswer.TheVariants.{Fetched}}
use Rattle.dsa_book.specs.declared.answer.{StartAnswer.TheVariants.{Started, Abandoned}, FinishAnswer.TheVariants.{Done}}
use Rattle.dsa_book.specs.declared.answer.{IssueAnswer.{IssueAnswer, TheVariants.{Ended, Active}}, Reply.{Reply}}
use Rattle.dsa_book.specs.declared.answer.{PollAnswer.TheVariants.{Finished}, ClearAnswer.TheVariants.{Cleared}}
use Rattle.dsa_book.specs.declared.answer.WriteAnswer.TheVariants.{Written, Refused}
use Rattle.dsa_book.specs.declared.answer.Reply.TheVariants as reply
use Rattle.dsa_book.specs.declared.event.Event.TheVariants as event
use Rattle.dsa_book.specs.declared.event.{Event.{Event}, Portal.{Portal}}
use Rattle.dsa_book.specs.declared.event.Kind.TheVariants.{Movdir64b}
use Rattle.dsa_book.specs.declared.note.ActiveCommand.{ActiveCommand}
use Rattle.dsa_book.specs.{Choice.{choice_of}, State.{State, Setup, ticket_of_entry}}
use Rattle.dsa_book.specs.Submit.{submit, after_refusal}
use Rattle.dsa_book.specs.Work.{dispatch_of, fetch_for, fetch_of, start_of, finish_of, last_status, members}
use Rattle.dsa_book.specs.Commands.{issue, poll_of, write_queue, clear_of, deed_done_of, command_done_of, wait_of, refusal_or}
use Rattle.dsa_book.specs.Commands.{end_at_once, work_with_setup, count_in_scope, is_at_end}
use Rattle.dsa_book.specs.Machine.{with_intake, with_work, state_with_setup}
use Rattle.dsa_book.{specs.Machine.{may_choose, reply_of, reply_with, next, intake_of}, proofs.Nexts.{next-of}}
use Rattle.dsa_laws.specs.Change.{Change, same, is_noted, is_accepted, is_taken, is_fetched, is_started, is_abandoned}
use Rattle.dsa_laws.specs.Change.{is_ended, is_device_enabled, is_queue_enabled, is_waiting, is_over, is_aborted, is_reset}
use Rattle.dsa_laws.specs.Change.{is_queue_written, is_group_written, is_cleared, IsGranted, IsBegun, stopped, set_up}
use Rattle.dsa_laws.specs.Refusals.{IsRefused}

-- some step leads there
abbrev Steps : State → State → Type 0
Steps s s' = (event : Event) × (reply : Reply) × (next s event reply ≡ Some s')

-- the machine's reply to an event makes a change
makes : {t : State} (s s' : State) (event : Event) (reply : Reply) → may_choose s event (choice_of reply) ≡ true
    → reply_of s event (choice_of reply) ≡ (reply, t) → t ≡ s' → Steps s s'
makes s s' event reply may is after =
    (event, reply, next-of s s' event reply may (is ∙ ap (λ t. (reply, t)) after))

-- ---- tables of which no row decides

last-of-3 : {X : Type 0} (a b c : Bool) (x y z last : X) → a ≡ false → b ≡ false → c ≡ false
    → first_row_or ((a, x) ∷ (b, y) ∷ (c, z) ∷ []) last ≡ last
last-of-3 a b c x y z last p q r = rw (p, q, r) refl

last-of-2 : {X : Type 0} (a b : Bool) (x y last : X) → a ≡ false → b ≡ false
    → first_row_or ((a, x) ∷ (b, y) ∷ []) last ≡ last
last-of-2 a b x y last p q = rw (p, q) refl

last-of-1 : {X : Type 0} (a : Bool) (x last : X) → a ≡ false → first_row_or ((a, x) ∷ []) last ≡ last
last-of-1 a x last p = rw p refl

second-of-3 : {X : Type 0} (a b c : Bool) (x y z last : X) → a ≡ false → b ≡ true
    → first_row_or ((a, x) ∷ (b, y) ∷ (c, z) ∷ []) last ≡ y
second-of-3 a b c x y z last p q = rw (p, q) refl

-- ---- entries

refusal-steps : (s : State) (q : ℕ) (portal : Portal) (d : Descriptor) (cause : Cause)
    → IsRefused s.work q portal Movdir64b cause
    → let i = intake_of s in
    submit i q portal Movdir64b d (record { 0 = 0 }) ≡ after_refusal i q Movdir64b cause
refusal-steps s q portal d NotEnabled off = rw off refl
refusal-steps s q portal d WrongKind refused = rw (refused.0, refused.1) refl
refusal-steps s q portal d AtLimit refused =
    rw (refused.0, refused.1, le-leb _ _ refused.2) refl

-- ---- commands

-- the answer to a command as a reply
abbrev as-issue : IssueAnswer × State → Reply × State
as-issue = reply_with reply.Issue (λ after. after)

-- a set-up where no command is active
idle-after : (s : State) (setup : Setup) → s.active ≡ None
    → record s { work = work_with_setup s.work setup } ≡ set_up s None setup
idle-after s setup idle = ap (λ active. set_up s active setup) idle

-- a command that is granted is carried out
granted-done : (s : State) (command : Command) → IsGranted s (deed_of command) (scope_of command)
    → issue s command ≡ command_done_of s command
granted-done s command g =
    last-of-3 _ _ _ _ _ _ _ (ap is_some g.idle) g.queues (ap not g.phases)
    ∙ ap (λ o. refusal_or s o (command_done_of s command)) g.check

deed-done : (s : State) (command : Command) (deed : Deed) → deed_of command ≡ deed
    → IsGranted s deed (scope_of command) → issue s command ≡ deed_done_of s command deed (scope_of command)
deed-done s command deed is g =
    granted-done s command (rw is g) ∙ ap (λ deed. deed_done_of s command deed (scope_of command)) is

-- a disable or a drain by how it is active
abbrev wait_as : State → ActiveCommand → IssueAnswer × State
wait_as s active = cond (is_at_end active s.work.content)
    (end_at_once s 0 (work_with_setup s.work (stopped Off active s.work.setup)))
    (Active, record { work = work_with_setup s.work (stopped Stopping active s.work.setup); active = Some active })

begun-waits : (s : State) (active : ActiveCommand) → IsBegun s active → issue s active.command ≡ wait_as s active
begun-waits s active begun =
    granted-done s active.command begun.granted ∙ waits begun.deed
    ∙ ap (λ mark. wait_as s (record { command = active.command; mark = mark })) begun.mark
  where
    as-wait : (deed : Deed) → deed_of active.command ≡ deed
        → deed_done_of s active.command deed (scope_of active.command) ≡ wait_of s active.command
        → command_done_of s active.command ≡ wait_of s active.command
    as-wait deed is e = ap (λ deed. deed_done_of s active.command deed (scope_of active.command)) is ∙ e

    waits : (deed_of active.command ≡ Disable) ⊎ (deed_of active.command ≡ Drain)
        → command_done_of s active.command ≡ wait_of s active.command
    waits (inl is) = as-wait Disable is refl
    waits (inr is) = as-wait Drain is refl

-- no queue is beyond the last
past-locked : (setup : Setup) → write_queue setup setup.caps.queues zero_queue ≡ (Refused BadIndex, setup)
past-locked setup = rw (le-ltb setup.caps.queues setup.caps.queues (omega arith)) refl

-- ---- any change

pub change-steps : (s s' : State) → Change s s' → Steps s s'
change-steps s s' (same e) =
    makes s s' (event.WriteQueue s.work.setup.caps.queues zero_queue) (reply.Write (Refused BadIndex)) refl
    (ap (reply_with reply.Write (state_with_setup s)) (past-locked s.work.setup)) e
change-steps s s' (is_noted c) =
    let d = read [] in
    makes s s' (event.Submit 0 c.queue c.portal Movdir64b d) (reply.Submit (Dropped c.cause)) refl
    (ap (reply_with reply.Submit (with_intake s)) (refusal-steps s c.queue c.portal d c.cause c.refused)) c.after
change-steps s s' (is_cleared c) =
    makes s s' event.ClearError (reply.Clear (Cleared c.noted)) refl
    (ap (λ o. reply_with reply.Clear (state_with_setup s) (clear_of s.work.setup o)) c.is_noted) c.after
change-steps s s' (is_accepted c) =
    makes s s' (event.Submit 0 c.queue c.portal c.kind c.desc)
    (reply.Submit (Accepted (record { cell = c.cell; name = s.work.setup.next_name }))) c.free
    (ap (reply_with reply.Submit (with_intake s))
    (last-of-3 _ _ _ _ _ _ _ (ap not c.on) (ap not c.of_kind) c.below)) c.after
change-steps s s' (is_taken c) =
    makes s s' (event.Dispatch c.engine) (reply.Dispatch (Taken (ticket_of_entry c.front) c.queue)) c.qualifies
    (ap (λ o. reply_with reply.Dispatch (with_work s) (dispatch_of s.work c.engine c.queue o)) c.is_front) c.after
change-steps s s' (is_fetched c) =
    makes s s' (event.Fetch c.engine c.desc)
    (reply.Fetch (Fetched (record { cell = c.cell; name = s.work.setup.next_name }))) c.free
    (ap (reply_with reply.Fetch (with_work s))
    (ap (λ o. fetch_for s.work c.engine c.desc c.cell o) c.is_note
    ∙ ap (λ o. fetch_of s.work c.engine c.desc c.cell c.note o) c.is_batch
    ∙ last-of-1 _ _ _ c.more)) c.after
change-steps s s' (is_started c) =
    makes s s' (event.Start c.engine) (reply.Start (Started (ticket_of_entry c.pair))) refl
    (ap (reply_with reply.Start (with_work s))
    (ap (start_of s.work c.engine) c.is_first
    ∙ last-of-3 _ _ _ _ _ _ _ c.first_of_all c.unfailed (ap not c.room))) c.after
change-steps s s' (is_abandoned c) =
    makes s s' (event.Start c.engine) (reply.Start (Abandoned (length (members s.work c.engine)))) refl
    (ap (reply_with reply.Start (with_work s))
    (ap (start_of s.work c.engine) c.is_first
    ∙ second-of-3 _ _ _ _ _ _ _ c.first_of_all c.failed)) c.after
change-steps s s' (is_ended c) =
    makes s s' (event.Finish c.engine c.ticket c.outcome) (reply.Finish (Done (last_status s.work c.engine c.pair c.outcome)))
    refl
    (ap (reply_with reply.Finish (with_work s))
    (ap (finish_of s.work c.engine c.outcome) c.is_found ∙ last-of-1 _ _ _ c.ready)) c.after
change-steps s s' (is_device_enabled c) =
    makes s s' (event.Issue EnableDevice) (reply.Issue (Ended 0)) refl
    (ap as-issue (granted-done s EnableDevice c.granted)) (idle-after s _ c.granted.idle ∙ c.after)
change-steps s s' (is_queue_enabled c) =
    makes s s' (event.Issue (EnableWq c.queue)) (reply.Issue (Ended 0)) refl
    (ap as-issue (granted-done s (EnableWq c.queue) c.granted)) (idle-after s _ c.granted.idle ∙ c.after)
change-steps s s' (is_waiting c) =
    makes s s' (event.Issue c.active.command) (reply.Issue Active) refl
    (ap as-issue (begun-waits s c.active c.begun ∙ rw c.held refl)) c.after
change-steps s s' (is_over c) = over c.begun
  where
    over : IsBegun s c.active ⊎ (s.active ≡ Some c.active) → Steps s s'
    over (inl begun) =
        makes s s' (event.Issue c.active.command) (reply.Issue (Ended 0)) refl
        (ap as-issue (begun-waits s c.active begun ∙ rw c.over refl))
        (idle-after s _ begun.granted.idle ∙ c.after)
    over (inr active) =
        makes s s' event.Poll (reply.Poll Finished) refl
        (ap (reply_with reply.Poll (λ after. after)) (ap (poll_of s) active ∙ rw c.over refl)) c.after
change-steps s s' (is_aborted c) =
    makes s s' (event.Issue c.command) (reply.Issue (Ended (count_in_scope (scope_of c.command) s.work.content))) refl
    (ap as-issue (deed-done s c.command Abort c.deed c.granted)) c.after
change-steps s s' (is_reset c) =
    makes s s' (event.Issue c.command) (reply.Issue (Ended (count_in_scope (scope_of c.command) s.work.content))) refl
    (ap as-issue (deed-done s c.command Reset c.deed c.granted)) c.after
change-steps s s' (is_queue_written c) =
    makes s s' (event.WriteQueue c.queue c.config) (reply.Write Written) refl
    (ap (reply_with reply.Write (state_with_setup s))
    (last-of-3 _ _ _ _ _ _ _ (ap not c.has) (ap not c.off) c.size)) c.after
change-steps s s' (is_group_written c) =
    makes s s' (event.WriteGroup c.group c.config) (reply.Write Written) refl
    (ap (reply_with reply.Write (state_with_setup s))
    (last-of-2 _ _ _ _ _ (ap not c.has) (ap not c.off))) c.after
