-- What came before a history that begins anew, and what it leaves.
use Rattle.dsa_book.specs.declared.fate.PastFates.TheVariants as ends
use Rattle.std.proofs.Common.{◌≡◌, ◌≢◌, ℕ, ◌+◌, ◌^◌, ◌≤◌, ◌==◌, Bool, true, false, cond, List, [], ◌∷◌, ◌++◌, length}
use Rattle.std.proofs.Common.{Option, Some, refl, sym, ap, ◌∙◌, subst, arith, append_assoc}
use Rattle.std.proofs.Common.{IsTrue, Result, Ok, Err, OnOk}
use Rattle.std.specs.Prelude.{OnErr}
use Rattle.std.proofs.Common.{append-nil}
use Rattle.std.proofs.lemmas.{Bool.{eqb-false, and_parts}, List.{length_push, Folds.{list_all-append}}}
use Rattle.std.specs.List.{list_all}
use Rattle.dsa_regs.specs.{declared.Caps.{Caps}, Caps.{check_caps}}
use Rattle.dsa_store.specs.Content.{Content, held_count}
use Rattle.dsa_book.specs.declared.{event.{Event.{Event}, Step.{Step}}, answer.Reply.{Reply}}
use Rattle.dsa_book.specs.declared.fate.{FateRow.{FateRow}, PastFates.{PastFates}}
use Rattle.dsa_book.specs.{State.{Setup, State}, Records.{Records, begun_anew}}
use Rattle.dsa_book.specs.declared.note.ActiveCommand.{ActiveCommand}
use Rattle.dsa_queues.specs.Queues.{Kept}
use Rattle.dsa_engines.specs.Engines.{EnginesState}
use Rattle.dsa_admin.specs.Admin.{Watch}
use Rattle.dsa_book.specs.Machine.{next, is_stored, is_legal, replay}
use Rattle.dsa_laws.{specs.Forgotten.{with_past_fates}, proofs.Changes.{next_keeps}}
use Rattle.dsa_laws.proofs.Forgotten.{replay-past, past-counted, past-emptied, next-grows}
use Rattle.dsa_device.specs.Running.{Running, running_at_first, running_anew, running_after, after_answer, names_left}
use Rattle.dsa_device.specs.Running.{running_of, IsReplay, HasPast, HasRows, IsRunning}
use Rattle.dsa_device.proofs.Steps.{answered_by_cases}

-- ---- a history that did not begin anew

-- it is all that the device did
pub replay_of : (d : Running) → HasPast d → d.anew ≡ false → IsReplay d
replay_of d p first =
    let past = p.no_past first in
    let forgotten = p.no_forgotten first in
    record {
      caps = p.caps;
      bounded = omega (arith, p.limited, p.bounded);
      within = p.within;
      legal = subst (λ (l : List Step). is_legal d.caps (l ++ d.history) ≡ true) past p.legal;
      replayed = subst (λ (f : List FateRow). replay d.caps d.history ≡ Some (with_past_fates f d.state)) forgotten
          (subst (λ (l : List Step). replay d.caps (l ++ d.history) ≡ Some (with_past_fates p.forgotten d.state)) past
          p.replayed);
    }

-- nothing came before a device's first step
pub past-opening : (caps : Caps) (capacity : ℕ) → IsTrue (check_caps caps) → capacity ≤ 2 ^ 20
    → HasPast (running_at_first caps capacity)
past-opening caps capacity good small = record {
  past = [];
  forgotten = [];
  caps = good;
  bounded = small;
  limited = omega arith;
  within = omega arith;
  legal = refl;
  replayed = refl;
  named = omega (arith, small);
  no_past = λ first. refl;
  no_forgotten = λ first. refl;
  full_room = λ first. refl;
}

-- ---- an answer

-- a history with room takes a step of the machine
module _ (d : Running) (x : Step) (s : State) (p : HasPast d) (room : (length d.history == d.capacity) ≡ false)
    (n : next d.state x.event x.reply ≡ Some s) where
  led : replay d.caps ((p.past ++ d.history) ++ x ∷ []) ≡ Some (with_past_fates p.forgotten s)
  led = replay-past d.caps (p.past ++ d.history) p.forgotten d.state s x p.replayed n

  free : length d.history ≢ d.capacity
  free = eqb-false _ _ room

  named : is_stored x.reply ≡ true → s.work.setup.next_name ≤ d.state.work.setup.next_name + 1
  named kept = rw kept at (next-grows d.state s x.event x.reply n).1

  recorded-past : HasPast (running_after d x.event x.reply s)
  recorded-past = at (is_stored x.reply) refl
    where
      at : (b : Bool) → is_stored x.reply ≡ b
          → HasPast (record d { history = cond b (d.history ++ x ∷ []) d.history; state = s })
      at false lost = subst (λ t. HasPast (record d { state = t })) (sym (next_keeps d.state s x.event x.reply n lost)) p
      at true kept =
          let joined : (p.past ++ d.history) ++ x ∷ [] ≡ p.past ++ (d.history ++ x ∷ []) =
          append_assoc p.past d.history (x ∷ []) in
          let stored : list_all (λ step. is_stored step.reply) (p.past ++ d.history) ≡ true = (and_parts _ _ p.legal).0
          in
          let legal : is_legal d.caps ((p.past ++ d.history) ++ x ∷ []) ≡ true =
          rw (list_all-append, stored, kept, led) refl in
          record {
            past = p.past;
            forgotten = p.forgotten;
            caps = p.caps;
            bounded = p.bounded;
            limited = p.limited;
            within = omega (arith, length_push d.history x, p.within, free);
            legal = subst (λ (l : List Step). is_legal d.caps l ≡ true) joined legal;
            replayed = subst (λ (l : List Step). replay d.caps l ≡ Some (with_past_fates p.forgotten s)) joined led;
            named = omega (arith, length_push d.history x, p.named, named kept);
            no_past = p.no_past;
            no_forgotten = p.no_forgotten;
            full_room = p.full_room;
          }

  -- as many rows and entries more as names
  recorded-rows : (rows : ℕ) → HasRows rows d → HasRows rows (running_after d x.event x.reply s)
  recorded-rows rows fit = at (is_stored x.reply) refl
    where
      at : (b : Bool) → is_stored x.reply ≡ b
          → HasRows rows (record d { history = cond b (d.history ++ x ∷ []) d.history; state = s })
      at false lost =
          subst (λ t. HasRows rows (record d { state = t })) (sym (next_keeps d.state s x.event x.reply n lost)) fit
      at true kept =
          omega (
            arith,
            length_push d.history x,
            past-counted d.caps (p.past ++ d.history) p.forgotten d.state p.replayed,
            past-counted d.caps ((p.past ++ d.history) ++ x ∷ []) p.forgotten s led,
            named kept,
            fit,
          )

-- each answer keeps what came before
pub answered-past : (d t : Running) (e : Event) (r : Reply) → HasPast d → after_answer d e r ≡ Some t → HasPast t
answered-past d t e r p a = answered_by_cases HasPast d t e r a (λ room full. p)
    (λ s room n. recorded-past d (record { event = e; reply = r }) s p room n)

-- and rows enough
pub answered-rows : (rows : ℕ) (d t : Running) (e : Event) (r : Reply) → HasPast d → HasRows rows d
    → after_answer d e r ≡ Some t → HasRows rows t
answered-rows rows d t e r p fit a = answered_by_cases (HasRows rows) d t e r a (λ room full. fit)
    (λ s room n. recorded-rows d (record { event = e; reply = r }) s p room n rows fit)

-- ---- a history that begins anew

-- the names that are left are those above the next one
left_over : (d : Running) → HasPast d → d.state.work.setup.next_name + names_left d + 1 ≡ 2 ^ 32
left_over d p = omega (arith, p.named, p.within)

pub past-anew : (d : Running) (fates : PastFates) → HasPast d → HasPast (running_anew d fates)
past-anew d fates p = at fates
  where
    all : p.past ++ d.history ≡ (p.past ++ d.history) ++ []
    all = sym (append-nil (p.past ++ d.history))

    legal : is_legal d.caps ((p.past ++ d.history) ++ []) ≡ true
    legal = subst (λ (l : List Step). is_legal d.caps l ≡ true) all p.legal

    replayed : replay d.caps ((p.past ++ d.history) ++ []) ≡ Some (with_past_fates p.forgotten d.state)
    replayed = subst (λ (l : List Step). replay d.caps l ≡ Some (with_past_fates p.forgotten d.state)) all p.replayed

    at : (fates : PastFates) → HasPast (running_anew d fates)
    at ends.Kept = record {
      past = p.past ++ d.history;
      forgotten = p.forgotten;
      caps = p.caps;
      bounded = p.bounded;
      limited = omega arith;
      within = omega arith;
      legal = legal;
      replayed = replayed;
      named = omega (arith, left_over d p);
      no_past = λ no. absurd cc;
      no_forgotten = λ no. absurd cc;
      full_room = λ no. absurd cc;
    }
    at ends.Forgotten = record {
      past = p.past ++ d.history;
      forgotten = p.forgotten ++ d.state.work.fates;
      caps = p.caps;
      bounded = p.bounded;
      limited = omega arith;
      within = omega arith;
      legal = legal;
      replayed = replayed ∙ ap Some (sym (past-emptied p.forgotten d.state));
      named = omega (arith, left_over d p);
      no_past = λ no. absurd cc;
      no_forgotten = λ no. absurd cc;
      full_room = λ no. absurd cc;
    }

-- a device by its parts, whose book began anew
pub running-anew : (cells names held : ℕ) (kept : Kept) (engines_state : EnginesState) (watch : Watch) (caps : Caps)
    (setup : Setup) (content : Content) (active : Option ActiveCommand) (book more : Records) (fates : PastFates)
    → IsRunning cells book.row_room kept engines_state watch (running_of caps setup engines_state content active book)
    → more ≡ begun_anew book fates names held
    → names ≡ names_left (running_of caps setup engines_state content active book) → held ≡ held_count content
    → IsRunning cells more.row_room kept engines_state watch (running_of caps setup engines_state content active more)
    × (running_of caps setup engines_state content active more
    ≡ running_anew (running_of caps setup engines_state content active book) fates)
running-anew cells names held kept engines_state watch caps setup content active book more fates i is left stay =
    let d = running_of caps setup engines_state content active book in
    let begun : IsRunning cells (begun_anew book fates (names_left d) (held_count content)).row_room kept engines_state
    watch (running_anew d fates) = record {
      whole = record { past = past-anew d fates i.whole.past; in_step = i.whole.in_step };
      rows_fit = omega arith;
      counted = i.counted;
      awaiting = i.awaiting;
    } in
    rw (is, left, stay) (begun, refl)

-- either it began anew or nothing changed
pub either : {A E P Q R : Type 0} (r : Result A E) → OnOk r P → OnErr r Q → (P → R) → (Q → R) → R
either (Ok x) ok err begun same = begun ok
either (Err e) ok err begun same = same err

pub on_ok : {A E P Q : Type 0} (r : Result A E) → OnOk r P → (P → Q) → OnOk r Q
on_ok (Ok x) ok more = more ok
on_ok (Err e) ok more = tt

pub on_err : {A E P Q : Type 0} (r : Result A E) → OnErr r P → (P → Q) → OnErr r Q
on_err (Ok x) err more = tt
on_err (Err e) err more = more err
