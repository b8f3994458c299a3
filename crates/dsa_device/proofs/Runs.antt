-- A run of a device, a call at a time.
use Rattle.std.proofs.Common.{◌≡◌, ℕ, Bool, true, false, cond, List, [], ◌∷◌, ◌++◌, Option, Some, None}
use Rattle.std.proofs.Common.{append_assoc, option_and_then, refl, sym, ap, ◌∙◌}
use Rattle.std.proofs.lemmas.{Bool.{and_parts, and_from}, List.{append-nil, map-append, Elements.{filter-append}}}
use Rattle.dsa_regs.specs.declared.Caps.{Caps}
use Rattle.dsa_book.specs.declared.{answer.Reply.{Reply}, event.{Event.{Event}, Step.{Step}}}
use Rattle.dsa_book.specs.Machine.{is_stored, stored_steps, history_after, may_follow, is_run_after}
use Rattle.dsa_device.specs.{Running.{Running, after_answer, after_answers, IsReplay}, Runs.{IsAnswered, IsRunOf}}
use Rattle.dsa_device.proofs.Steps.{answered_by_cases, answered-replay, grows}

-- a run and one step more
is_run_after-push : (caps : Caps) (capacity : ℕ) (h xs : List Step) (x : Step) → is_run_after caps capacity h xs ≡ true
    → may_follow caps capacity (h ++ stored_steps xs) x ≡ true → is_run_after caps capacity h (xs ++ x ∷ []) ≡ true
is_run_after-push caps capacity h [] x run may =
    let here : may_follow caps capacity h x ≡ true = rw append-nil at may in
    rw here refl
is_run_after-push caps capacity h (y ∷ ys) x run may =
    let p = and_parts _ _ run in
    and_from _ _ p.0 (is_run_after-push caps capacity (h ++ stored_steps (y ∷ [])) ys x p.1
    (rw (append_assoc, ← filter-append) may))

-- a device's answer may follow its history
may_answer : (d t : Running) (x : Step) → IsReplay d → after_answer d x.event x.reply ≡ Some t
    → may_follow d.caps d.capacity d.history x ≡ true
may_answer d t x i a =
    answered_by_cases (λ u. may_follow d.caps d.capacity d.history x ≡ true) d t x.event x.reply a
    (λ room full. rw (room, full) refl)
    (λ s room n. rw (room, i.replayed, n) refl)

-- and its history keeps it behind those of a run
kept : (h xs : List Step) (x : Step) → history_after (h ++ stored_steps xs) x ≡ h ++ stored_steps (xs ++ x ∷ [])
kept h xs x = go (is_stored x.reply) ∙ ap (λ (ys : List Step). h ++ ys) (sym (filter-append _ xs (x ∷ [])))
  where
    go : (b : Bool) → cond b ((h ++ stored_steps xs) ++ x ∷ []) (h ++ stored_steps xs)
        ≡ h ++ (stored_steps xs ++ cond b (x ∷ []) [])
    go true = append_assoc h (stored_steps xs) (x ∷ [])
    go false = ap (λ (ys : List Step). h ++ ys) (sym (append-nil (stored_steps xs)))

-- a run of a device that was answered once more
pub IsRunOf-push : (d a t : Running) (events more : List Event) (old new newer : List Step) (e : Event) (r : Reply)
    → IsReplay a → IsRunOf d events old new a → after_answer a e r ≡ Some t → more ≡ events ++ e ∷ []
    → newer ≡ new ++ record { event = e; reply = r } ∷ [] → IsRunOf d more old newer t
IsRunOf-push d a t events more old new newer e r replay run n one is =
    let x : Step = record { event = e; reply = r } in
    let g = grows a t e r n in
    record {
      steps = run.steps ++ x ∷ [];
      added = is ∙ ap (λ (l : List Step). l ++ x ∷ []) run.added ∙ append_assoc old run.steps (x ∷ []);
      events_are = map-append (λ (x : Step). x.event) run.steps (x ∷ []) ∙ rw (one, run.events_are) refl;
      allowed = is_run_after-push d.caps d.capacity d.history run.steps x run.allowed
          (rw (← run.same_caps, ← run.same_capacity, ← run.history) (may_answer a t x replay n));
      same_caps = g.caps ∙ run.same_caps;
      same_capacity = g.capacity ∙ run.same_capacity;
      history = g.history ∙ rw run.history (kept d.history run.steps x);
      replayed = rw (← run.same_caps, ← g.caps) (answered-replay a t e r replay n).replayed;
    }

-- answers and one more
answered-more : (d a t : Running) (steps : List Step) (x : Step) → after_answers d steps ≡ Some a
    → after_answer a x.event x.reply ≡ Some t → after_answers d (steps ++ x ∷ []) ≡ Some t
answered-more d a t [] x first last =
    let same : d ≡ a = cc in rw (same, last) refl
answered-more d a t (y ∷ ys) x first last =
    go (after_answer d y.event y.reply) (λ b some. answered-more b a t ys x some last) first
  where
    go : (o : Option Running) → ((b : Running) → after_answers b ys ≡ Some a → after_answers b (ys ++ x ∷ []) ≡ Some t)
        → option_and_then (λ t. after_answers t ys) o ≡ Some a
        → option_and_then (λ t. after_answers t (ys ++ x ∷ [])) o ≡ Some t
    go None more none = absurd cc
    go (Some b) more some = more b some

-- whatever the device's past
pub IsAnswered-push : (d a t : Running) (events more : List Event) (old new newer : List Step) (e : Event) (r : Reply)
    → IsAnswered d events old new a → after_answer a e r ≡ Some t → more ≡ events ++ e ∷ []
    → newer ≡ new ++ record { event = e; reply = r } ∷ [] → IsAnswered d more old newer t
IsAnswered-push d a t events more old new newer e r ran n one is =
    let x : Step = record { event = e; reply = r } in
    record {
      steps = ran.steps ++ x ∷ [];
      added = is ∙ ap (λ (l : List Step). l ++ x ∷ []) ran.added ∙ append_assoc old ran.steps (x ∷ []);
      events_are = map-append (λ (x : Step). x.event) ran.steps (x ∷ []) ∙ rw (one, ran.events_are) refl;
      answered = answered-more d a t ran.steps x ran.answered n;
    }
