-- The number of entries that the active command waits for, across each step.
use Rattle.dsa_book.specs.declared.event.Event.TheVariants as event
use Rattle.dsa_book.specs.declared.answer.Reply.TheVariants as reply
use Rattle.std.proofs.Common.{◌≡◌, ℕ, ◌+◌, ◌-◌, ◌≤◌, true, false, Option, Some, None, refl, sym, ap, ◌∙◌, arith}
use Rattle.dsa_desc.specs.declared.Outcome.{Outcome}
use Rattle.dsa_regs.specs.{declared.Caps.{Caps}, Command.{deed_of, scope_of}}
use Rattle.dsa_store.specs.{declared.entry.Entry.{Entry}, Content.{Content, count_where}}
use Rattle.dsa_book.specs.declared.answer.{Ticket.{Ticket}, Reply.{Reply}, DispatchAnswer.{DispatchAnswer}}
use Rattle.dsa_book.specs.declared.answer.FinishAnswer.{FinishAnswer, TheVariants.{Done}}
use Rattle.dsa_book.specs.declared.{event.Event.{Event}, note.ActiveCommand.{ActiveCommand}}
use Rattle.dsa_book.specs.{State.{Setup, Work, is_off}, Choice.{choice_of}, Work.{may_leave, dispatch, finish}}
use Rattle.dsa_queues.{specs.Queues.{Kept, IsCounted}, proofs.Counts.{counted-setup}}
use Rattle.dsa_engines.{specs.Engines.{EnginesState, IsInStep}, proofs.Keeping.{KeepsLoads}}
use Rattle.dsa_admin.specs.Admin.{Watch, IsAwaiting, is_watched, is_waited_for, is_counting}
use Rattle.dsa_laws.specs.WellFormed.{CellsOnce}
use Rattle.dsa_laws.proofs.Awaits.{IsOfEarlier, guarded, awaited-earlier, ended_of, dispatch-counts, finish-counts}
use Rattle.dsa_laws.proofs.Forgotten.{next-grows}
use Rattle.dsa_device.proofs.Known.{shape_of}
use Rattle.dsa_device.proofs.{Steps.{answered_by_cases}, Whole.{same-queues, rows_after, whole_after, whole_after_queues}}
use Rattle.dsa_device.specs.Running.{Running, IsRunning, after_answer, watched_in, awaited_end}

-- what a command counts was submitted before it
watched-earlier : (active : ActiveCommand) → IsOfEarlier (is_watched active) active.mark
watched-earlier active = guarded (is_counting (deed_of active.command)) (is_waited_for active) active.mark
    (λ counts. awaited-earlier (deed_of active.command) (scope_of active.command) active.mark
    (λ disables. let no : false ≡ true = rw disables at counts in absurd cc))

-- before a device has a command
pub awaiting-none : (watch : Watch) (name : ℕ) (content : Content) → watch.active ≡ None
    → IsAwaiting watch name content
awaiting-none watch name content none = record {
  counts = λ active is. let no : None ≡ Some active = rw none at is in absurd cc;
  mark = λ active is. let no : None ≡ Some active = rw none at is in absurd cc;
}

-- where as many are held that the command counts, and the next name is none before it
pub awaiting-kept : (watch : Watch) (name more : ℕ) (content now : Content) → name ≤ more
    → ((active : ActiveCommand) → IsOfEarlier (is_watched active) active.mark → active.mark ≤ name
    → count_where (is_watched active) now ≡ count_where (is_watched active) content)
    → IsAwaiting watch name content → IsAwaiting watch more now
awaiting-kept watch name more content now le same a = record {
  counts = λ active is. a.counts active is ∙ sym (same active (watched-earlier active) (a.mark active is));
  mark = λ active is. omega (arith, a.mark active is, le);
}

-- no step takes a name back
pub names-after : (d now t : Running) (e : Event) (r : Reply) → d ≡ now → after_answer now e r ≡ Some t
    → d.state.work.setup.next_name ≤ t.state.work.setup.next_name
names-after d now t e r is a = answered_by_cases
    (λ t. d.state.work.setup.next_name ≤ t.state.work.setup.next_name) d t e r (rw (← is) at a)
    (λ room full. omega arith)
    (λ s room n. (next-grows d.state s e r n).0)

-- a step of the set-up alone, which leaves all entries and numbers as they are
pub set-up-running : (cells more rows room : ℕ) (kept after : Kept) (engines_state : EnginesState) (watch : Watch)
    (d now t : Running) (e : Event) (r : Reply) → IsRunning cells rows kept engines_state watch d → d ≡ now
    → after_answer now e r ≡ Some t → engines_state.notes ≡ t.state.work.notes → more ≡ cells → room ≡ rows
    → (is_off t.state.work.setup.device ≡ false
    → KeepsLoads d.state.work.setup t.state.work.setup d.state.work.content t.state.work.content)
    → after.held ≡ kept.held → kept.setup ≡ d.state.work.setup → after.setup ≡ t.state.work.setup
    → t.state.work.content ≡ d.state.work.content → IsRunning more room after engines_state watch t
set-up-running cells more rows room kept after engines_state watch d now t e r i is a notes count still keeps held before
    setup same = record {
      whole = whole_after_queues cells more engines_state d now t e r i.whole is a notes count keeps;
      rows_fit = rows_after rows room d now t e r i.whole.past i.rows_fit is a still;
      counted = rw same (counted-setup kept after d.state.work.content held
          (ap queues_of setup ∙ same-queues d now t e r i.whole.past is a ∙ ap queues_of (sym before)) i.counted);
      awaiting = rw same (awaiting-kept watch d.state.work.setup.next_name t.state.work.setup.next_name
          d.state.work.content d.state.work.content (names-after d now t e r is a)
          (λ active earlier past. refl) i.awaiting);
    }
  where
    queues_of : Setup → ℕ
    queues_of setup = setup.caps.queues

-- a dispatch, which leaves as many that a command counts
pub dispatch-running : (cells more rows room : ℕ) (kept : Kept) (engines_state after : EnginesState) (watch : Watch)
    (d now t : Running) (engine : ℕ) (answer : DispatchAnswer) → IsRunning cells rows kept engines_state watch d → d ≡ now
    → after_answer now (event.Dispatch engine) (reply.Dispatch answer) ≡ Some t → room ≡ rows
    → may_leave d.state.work engine (choice_of (reply.Dispatch answer)) ≡ true
    → dispatch d.state.work engine (choice_of (reply.Dispatch answer)) ≡ (answer, t.state.work)
    → IsInStep t.state.work.setup after more t.state.work.content → IsCounted kept t.state.work.content
    → IsRunning more room kept after watch t
dispatch-running cells more rows room kept engines_state after watch d now t engine answer i is a still may step in_step
    counted = record {
      whole = whole_after cells more engines_state after d now t (event.Dispatch engine) (reply.Dispatch answer) i.whole is a
          in_step;
      rows_fit = rows_after rows room d now t (event.Dispatch engine) (reply.Dispatch answer) i.whole.past i.rows_fit is a
          still;
      counted = counted;
      awaiting = awaiting-kept watch d.state.work.setup.next_name t.state.work.setup.next_name
          d.state.work.content t.state.work.content
          (names-after d now t (event.Dispatch engine) (reply.Dispatch answer) is a)
          (λ active earlier past. dispatch-counts (is_watched active) active.mark earlier d.caps d.state.work engine
          (choice_of (reply.Dispatch answer)) answer t.state.work (shape_of d i.whole.past) may step)
          i.awaiting;
    }

-- ---- the end of an entry

-- no command counts it
no-end : (watch : Watch) (entry : Option Entry) (answer : FinishAnswer) → watch.active ≡ None
    → awaited_end watch entry answer ≡ 0
no-end watch None (Done status) is = refl
no-end watch (Some entry) (Done status) is = rw is refl
no-end watch entry _ is = refl

module _ (caps : Caps) (w after : Work) (engine : ℕ) (ticket : Ticket) (outcome : Outcome) (answer : FinishAnswer)
    (once : CellsOnce caps w) (goes : finish w engine ticket outcome ≡ (answer, after)) where
  -- what is read before it
  abbrev entry_read : Watch → Option Entry
  entry_read watch = watched_in (record { work = w; active = watch.active }) ticket

  -- the entry that was read is the one that ends
  same-end : (watch : Watch) (active : ActiveCommand) (answer : FinishAnswer) → watch.active ≡ Some active
      → awaited_end watch (entry_read watch) answer ≡ ended_of (is_watched active) w.content ticket answer
  same-end watch active (Done status) is = rw is refl
  same-end watch active _ is = refl

  ends : (watch : Watch) (name : ℕ) → IsAwaiting watch name w.content → (active : ActiveCommand)
      → watch.active ≡ Some active
      → count_where (is_watched active) after.content + awaited_end watch (entry_read watch) answer ≡ watch.awaited
  ends watch name a active is =
      let counts = finish-counts (is_watched active) active.mark (watched-earlier active) caps w engine ticket outcome
      answer after once goes in
      omega (arith, counts, same-end watch active answer is, a.counts active is)

  -- so the number is no less than what ends
  pub end-counted : (watch : Watch) (name : ℕ) → IsAwaiting watch name w.content
      → awaited_end watch (entry_read watch) answer ≤ watch.awaited
  end-counted watch name a = by_active watch.active refl
    where
      by_active : (o : Option ActiveCommand) → watch.active ≡ o
          → awaited_end watch (entry_read watch) answer ≤ watch.awaited
      by_active None is = omega (arith, no-end watch (entry_read watch) answer is)
      by_active (Some active) is = omega (arith, ends watch name a active is)

  -- and without it the number of those that are left
  pub awaiting-end : (watch : Watch) (name more : ℕ) → name ≤ more → IsAwaiting watch name w.content
      → IsAwaiting (record watch { awaited = watch.awaited - awaited_end watch (entry_read watch) answer }) more
      after.content
  awaiting-end watch name more le a = record {
    counts = λ active is. omega (arith, ends watch name a active is);
    mark = λ active is. omega (arith, a.mark active is, le);
  }
