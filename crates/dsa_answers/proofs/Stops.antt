-- What is Stopping is what the active command disables.
use Rattle.std.proofs.Common.{◌≡◌, ℕ, Bool, true, false, not, List, [], ◌∷◌, Option, Some, None, refl, sym, ap, subst}
use Rattle.std.proofs.{lemmas.Bool.{cond_both}, Common.{◌∙◌}}
use Rattle.std.specs.Prelude.{◌==◌, find, replicate, get_or, slice_set, is_some}
use Rattle.dsa_desc.specs.declared.Descriptor.{Descriptor}
use Rattle.dsa_base.proofs.{Lists.{get_or-replicated}, Tables.{first_row_or-each, one_row, table3}}
use Rattle.dsa_regs.specs.declared.{Deed.{Deed, TheVariants.{Enable, Disable, Abort, Reset}}, QueueConfig.{QueueConfig}}
use Rattle.dsa_regs.specs.declared.{Fault.{Fault, TheVariants.{BadQueue, WrongState, Busy}}, GroupConfig.{GroupConfig}}
use Rattle.dsa_regs.specs.declared.{Phase.{Phase, TheVariants.{Off, On, Stopping}}, Command.{Command}, Caps.{Caps}}
use Rattle.dsa_regs.specs.{declared.Scope.{Scope, TheVariants.{Device, Queue}}, Command.{scope_of, deed_of, queues_in}}
use Rattle.dsa_store.specs.{declared.entry.Cell.{Cell}, Content.{HeldEntry}}
use Rattle.dsa_book.proofs.{Leaving.{dispatch-setup, start_of-setup, finish_of-setup}, Replay.{replay_none}}
use Rattle.dsa_book.proofs.{Nexts.{next-each}, Phases.{by_phase}}
use Rattle.dsa_book.specs.Commands.{after_stop, is_among, with_phases, write_queue, write_queue_table, write_group}
use Rattle.dsa_book.specs.Commands.{issue, check_of, refusal_or, command_done_of, deed_done_of, wait_of, poll_of}
use Rattle.dsa_book.specs.State.{Setup, Intake, Work, State, opening, is_ticket, is_off, phase_at}
use Rattle.dsa_book.specs.Work.{dispatch, fetch_for, fetch_of, after_fetch, note_at, batch_on, start, first_waiting}
use Rattle.dsa_book.specs.declared.answer.WriteAnswer.{WriteAnswer, TheVariants.{Written, Refused}}
use Rattle.dsa_book.specs.declared.answer.{Cause.{Cause, TheVariants.{AtLimit, NotEnabled, WrongKind}}, Reply.{Reply}}
use Rattle.dsa_book.specs.declared.answer.{FetchAnswer.{FetchAnswer, TheVariants.{AllFetched}}, NotedError.{NotedError}}
use Rattle.dsa_book.specs.declared.answer.{IssueAnswer.{IssueAnswer, TheVariants.{Refused}}, PollAnswer.{PollAnswer}}
use Rattle.dsa_book.specs.declared.event.Event.TheVariants.{Submit, Dispatch, Fetch, Start, Finish, Issue, Poll}
use Rattle.dsa_book.specs.declared.event.Event.TheVariants.{WriteQueue, WriteGroup, ClearError}
use Rattle.dsa_book.specs.declared.event.{Kind.{Kind, TheVariants.{Enqcmd, Movdir64b}}, Portal.{Portal}, Event.{Event}}
use Rattle.dsa_book.specs.declared.{note.{BatchNote.{BatchNote}, ActiveCommand.{ActiveCommand}}, event.Step.{Step}}
use Rattle.dsa_book.specs.{Machine.{next, reply_of, replay, replay_from, intake_of}, Choice.{Choice, chosen_cell}}
use Rattle.dsa_book.specs.{Submit.{submit, submit_table, after_refusal, after_accept}, Work.{finish, running_on}}
use Rattle.dsa_book.specs.{declared.answer.SubmitAnswer.{SubmitAnswer}, Commands.{write_group_table, clear_of}}
use Rattle.dsa_answers.specs.Stops.{is_stopping, stops_device, stops_queue, is_active_command, IsAtRest}

-- ---- the words of one phase and one command

-- the same, of what a step may change
pub record StopsBy (setup : Setup) (whole : Bool) (named : ℕ → Bool) : Type 0 where
  pub device : is_stopping setup.device ≡ true → whole ≡ true
  pub queues : (q : ℕ) → is_stopping (phase_at setup q) ≡ true → named q ≡ true

abbrev pub Stops : Setup → Option ActiveCommand → Type 0
Stops setup active = StopsBy setup (is_active_command stops_device active)
    (λ q. is_active_command (λ deed scope. stops_queue deed scope q) active)

-- it holds in a state
abbrev Holds : State → Type 0
Holds s = Stops s.work.setup s.active

-- nothing is Stopping
resting : {whole : Bool} {named : ℕ → Bool} (setup : Setup) → is_stopping setup.device ≡ false
    → ((q : ℕ) → is_stopping (phase_at setup q) ≡ false) → StopsBy setup whole named
resting setup d p = record {
  device = λ h. absurd cc;
  queues = λ q h. let e = p q in absurd cc;
}

none : (b : Bool) → (b ≡ true → false ≡ true) → b ≡ false
none true f = sym (f refl)
none false f = refl

-- without an active command nothing is Stopping
pub at-rest : (setup : Setup) (active : Option ActiveCommand) → active ≡ None → Stops setup active → IsAtRest setup
at-rest setup active n h = record {
  device = none (is_stopping setup.device) (λ t. ap (is_active_command stops_device) (sym n) ∙ h.device t);
  queues = λ q. none (is_stopping (phase_at setup q))
      (λ t. ap (is_active_command (λ deed scope. stops_queue deed scope q)) (sym n) ∙ h.queues q t);
}

-- ---- the steps that leave phases as they are

-- a set-up with the phases of the state
abbrev HasSame : State → Setup → Type 0
HasSame s setup =
    ◌≡◌ {A = Phase × List Phase} (setup.device, setup.phases) (s.work.setup.device, s.work.setup.phases)

kept : (s : State) (setup : Setup) → Holds s → HasSame s setup → Stops setup s.active
kept s setup i e = record {
  device = λ h. i.device (sym (ap (λ (p : Phase × List Phase). is_stopping p.0) e) ∙ h);
  queues = λ q h. i.queues q (sym (ap (λ (p : Phase × List Phase). is_stopping (get_or p.1 q Off)) e) ∙ h);
}

-- an engine's step but for a fetch leaves the set-up
left : (s : State) (w : Work) → Holds s → w.setup ≡ s.work.setup → Stops w.setup s.active
left s w i e = subst (λ (setup : Setup). Stops setup s.active) (sym e) i

turned_away-phases : (s : State) (q : ℕ) (kind : Kind) (cause : Cause)
    → HasSame s (after_refusal (intake_of s) q kind cause).1.setup
turned_away-phases s q (Enqcmd pasid) cause = refl
turned_away-phases s q Movdir64b cause = refl

submit-phases : (s : State) (q : ℕ) (portal : Portal) (kind : Kind) (d : Descriptor) (cell : Cell)
    → HasSame s (submit (intake_of s) q portal kind d cell).1.setup
submit-phases s q portal kind d cell =
    let away = turned_away-phases s q kind in
    first_row_or-each (λ (r : SubmitAnswer × Intake). HasSame s r.1.setup) (submit_table (intake_of s) q portal kind)
    (after_accept (intake_of s) q kind d cell) (away NotEnabled, (away WrongKind, (away AtLimit, tt))) refl

fetch_of-phases : (s : State) (e : ℕ) (d : Descriptor) (c : Cell) (note : BatchNote) (o : Option HeldEntry)
    → HasSame s (fetch_of s.work e d c note o).1.setup
fetch_of-phases s e d c note None = refl
fetch_of-phases s e d c note (Some batch) =
    one_row (λ (r : FetchAnswer × Work). HasSame s r.1.setup) _ (AllFetched, s.work)
    (after_fetch s.work e d c note batch.1) refl refl

fetch-phases : (s : State) (e : ℕ) (d : Descriptor) (c : Cell) (o : Option BatchNote)
    → HasSame s (fetch_for s.work e d c o).1.setup
fetch-phases s e d c None = refl
fetch-phases s e d c (Some note) = fetch_of-phases s e d c note (batch_on s.work e note)

write_queue-phases : (s : State) (q : ℕ) (config : QueueConfig) → HasSame s (write_queue s.work.setup q config).1
write_queue-phases s q config =
    first_row_or-each (λ (r : WriteAnswer × Setup). HasSame s r.1) (write_queue_table s.work.setup q config)
    (Written, record s.work.setup { configs = slice_set s.work.setup.configs q config })
    (refl, (refl, (refl, tt))) refl

write_group-phases : (s : State) (g : ℕ) (config : GroupConfig) → HasSame s (write_group s.work.setup g config).1
write_group-phases s g config =
    first_row_or-each (λ (r : WriteAnswer × Setup). HasSame s r.1) (write_group_table s.work.setup g)
    (Written, record s.work.setup { groups = slice_set s.work.setup.groups g config }) (refl, (refl, tt)) refl

clear-phases : (s : State) (o : Option NotedError) → HasSame s (clear_of s.work.setup o).1
clear-phases s None = refl
clear-phases s (Some noted) = refl

-- ---- commands

-- what a command stops is what it is said to stop
stopped-stops : (setup : Setup) (deed : Deed) (scope : Scope) → IsAtRest setup
    → StopsBy (after_stop deed scope Stopping setup) (stops_device deed scope) (stops_queue deed scope)
stopped-stops setup Disable Device i = record { device = λ h. refl; queues = λ q h. refl }
stopped-stops setup Disable scope i = record {
  device = λ h. let e = i.device in absurd cc;
  queues = λ q.
      by_phase (λ p. is_stopping p ≡ true
      → is_among (queues_in scope) q ≡ true) (is_among (queues_in scope)) Stopping setup q
      (λ t h. t) (λ t h. let e = i.queues q in absurd cc) (λ h. absurd cc);
}
stopped-stops setup _ scope i = resting setup i.device i.queues

-- phases that are set to one that is not Stopping
set-rests : (setup : Setup) (test : ℕ → Bool) (p : Phase) (q : ℕ) → is_stopping p ≡ false
    → (test q ≡ false → is_stopping (phase_at setup q) ≡ false)
    → is_stopping (phase_at (with_phases test p setup) q) ≡ false
set-rests setup test p q h k = by_phase (λ p. is_stopping p ≡ false) test p setup q (λ t. h) k refl

-- with what it stopped Off, nothing is Stopping
over-rests : (setup : Setup) (deed : Deed) (scope : Scope)
    → StopsBy setup (stops_device deed scope) (stops_queue deed scope) → IsAtRest (after_stop deed scope Off setup)
over-rests setup Disable Device i = record {
  device = refl;
  queues = λ q. set-rests setup (λ q. not (is_off (phase_at setup q))) Off q refl (λ t. off (phase_at setup q) t);
}
  where
    off : (p : Phase) → not (is_off p) ≡ false → is_stopping p ≡ false
    off Off h = refl
    off On h = refl
    off Stopping h = absurd cc
over-rests setup Disable scope i = record {
  device = none (is_stopping setup.device) i.device;
  queues = λ q. set-rests setup (is_among (queues_in scope)) Off q refl
      (λ t. none (is_stopping (phase_at setup q)) (λ h. sym t ∙ i.queues q h));
}
over-rests setup _ scope i = record { device = none _ i.device; queues = λ q. none _ (i.queues q) }

of-rest : (setup : Setup) (active : Option ActiveCommand) → IsAtRest setup → Stops setup active
of-rest setup active i = resting setup i.device i.queues

waits-stops : (s : State) (command : Command) → IsAtRest s.work.setup → Holds (wait_of s command).1
waits-stops s command i = cond_both _ _ _ (λ (r : IssueAnswer × State). Holds r.1)
    (λ x. of-rest _ s.active (over-rests s.work.setup (deed_of command) (scope_of command)
    (resting s.work.setup i.device i.queues)))
    (λ x. stopped-stops s.work.setup (deed_of command) (scope_of command) i)

-- each queue of a device that was reset is Off
reset-rests : (phases : ℕ) (q : ℕ) → is_stopping (get_or (replicate phases Off) q Off) ≡ false
reset-rests phases q = ap is_stopping (get_or-replicated Off phases q)

done-stops : (s : State) (command : Command) (deed : Deed) (scope : Scope) → IsAtRest s.work.setup
    → Holds (deed_done_of s command deed scope).1
done-stops s command Enable Device i = resting _ refl i.queues
done-stops s command Enable (Queue queue) i =
    resting _ i.device (λ q. set-rests s.work.setup (λ k. k == queue) On q refl (λ t. i.queues q))
done-stops s command Enable scope i = of-rest _ s.active i
done-stops s command Abort scope i = of-rest _ s.active i
done-stops s command Reset Device i = resting _ refl (reset-rests s.work.setup.caps.queues)
done-stops s command Reset scope i = resting _ i.device
    (λ q. set-rests s.work.setup (is_among (queues_in scope)) Off q refl (λ t. i.queues q))
done-stops s command _ scope i = waits-stops s command i

refused_or-stops : (s : State) (o : Option Fault) (r : IssueAnswer × State) → Holds s
    → Holds r.1 → Holds (refusal_or s o r).1
refused_or-stops s None r i k = k
refused_or-stops s (Some fault) r i k = i

issue-stops : (s : State) (command : Command) → Holds s → Holds (issue s command).1
issue-stops s command i =
    table3 (λ (r : IssueAnswer × State). Holds r.1) _ _ _ (Refused Busy, s)
    (Refused BadQueue, s) (Refused WrongState, s)
    (refusal_or s (check_of s.work.setup (deed_of command) (scope_of command)) (command_done_of s command))
    (λ x. i) (λ x. i) (λ x. i)
    (λ x y z. refused_or-stops s (check_of s.work.setup (deed_of command) (scope_of command))
    (command_done_of s command) i (done-stops s command (deed_of command) (scope_of command)
    (at-rest s.work.setup s.active (no-command s.active x) i)))
  where
    no-command : (o : Option ActiveCommand) → is_some o ≡ false → o ≡ None
    no-command None h = refl
    no-command (Some active) h = absurd cc

poll-stops : (s : State) (o : Option ActiveCommand) → s.active ≡ o → Holds s → Holds (poll_of s o).1
poll-stops s None e i = i
poll-stops s (Some active) e i = cond_both _ _ _ (λ (r : PollAnswer × State). Holds r.1)
    (λ x. of-rest _ None (over-rests s.work.setup (deed_of active.command) (scope_of active.command)
    (subst (λ o. Stops s.work.setup o) e i)))
    (λ x. i)

-- ---- any step, and any history

reply-stops : (s : State) (event : Event) (choice : Choice) → Holds s → Holds (reply_of s event choice).1
reply-stops s (Submit client q portal kind d) choice i =
    kept s _ i (submit-phases s q portal kind d (chosen_cell choice))
reply-stops s (Dispatch e) choice i = left s (dispatch s.work e choice).1 i (dispatch-setup s.work e choice)
reply-stops s (Fetch e d) choice i = kept s _ i (fetch-phases s e d (chosen_cell choice) (note_at s.work e))
reply-stops s (Start e) choice i = left s (start s.work e).1 i (start_of-setup s.work e (first_waiting s.work e))
reply-stops s (Finish e t outcome) choice i = left s (finish s.work e t outcome).1 i
    (finish_of-setup s.work e outcome (find (is_ticket t) (running_on s.work e)))
reply-stops s (Issue command) choice i = issue-stops s command i
reply-stops s Poll choice i = poll-stops s s.active refl i
reply-stops s (WriteQueue q config) choice i = kept s _ i (write_queue-phases s q config)
reply-stops s (WriteGroup g config) choice i = kept s _ i (write_group-phases s g config)
reply-stops s ClearError choice i = kept s _ i (clear-phases s s.work.setup.noted)

next-stops : (s s' : State) (event : Event) (reply : Reply) → Holds s → next s event reply ≡ Some s' → Holds s'
next-stops s s' event reply i h = next-each (λ r t. Holds t) s s' event reply
    (λ choice may told. reply-stops s event choice i) h

-- what every step keeps, every history keeps
replay-stops : (h : List Step) (s s' : State) → Holds s → replay_from (Some s) h ≡ Some s' → Holds s'
replay-stops [] s s' i e = let is : s ≡ s' = cc in subst (λ t. Holds t) is i
replay-stops (x ∷ h) s s' i e = go (λ t j r. replay-stops h t s' j r) (next s x.event x.reply) refl e
  where
    go : ((t : State) → Holds t → replay_from (Some t) h ≡ Some s' → Holds s') → (o : Option State)
        → next s x.event x.reply ≡ o → replay_from o h ≡ Some s' → Holds s'
    go more None n e = absurd (replay_none h s' e)
    go more (Some t) n e = more t (next-stops s t x.event x.reply i n) e

pub from-opening : (caps : Caps) (h : List Step) (s : State) → replay caps h ≡ Some s → Holds s
from-opening caps h s e = replay-stops h (opening caps) s (resting _ refl (reset-rests caps.queues)) e
