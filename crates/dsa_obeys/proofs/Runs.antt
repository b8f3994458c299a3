-- The answered steps of a run lead where its stored steps do.
use Rattle.dsa_book.specs.declared.event.Event.TheVariants as event
use Rattle.std.proofs.Common.{◌≡◌, ℕ, ◌+◌, ◌≤◌, ◌==◌, arith, Bool, true, false, cond, not, List, [], ◌∷◌, ◌++◌, length}
use Rattle.std.proofs.Common.{is_some, Option, Some, None, refl, sym, ap, ◌∙◌, subst, append_assoc, option_and_then}
use Rattle.std.proofs.lemmas.{Bool.{and_parts, and_from, ne_eqb}, List.{append-nil, length_push}}
use Rattle.dsa_base.proofs.Tables.{not-both}
use Rattle.dsa_regs.specs.declared.Caps.{Caps}
use Rattle.dsa_book.specs.declared.{event.{Event.{Event}, Step.{Step}}, answer.Reply.{Reply}}
use Rattle.dsa_book.specs.State.{State}
use Rattle.dsa_book.specs.Machine.{next, is_stored, replay, replay_from, full_reply, is_full_reply, stored_steps}
use Rattle.dsa_book.specs.Machine.{may_follow, is_run_after}
use Rattle.dsa_book.proofs.{EqualReplies.{equal-replies}, Replay.{replay-snoc, replay_none}}
use Rattle.dsa_laws.proofs.Changes.{next_keeps}
use Rattle.dsa_obeys.specs.Obeys.{with_answers}
use Rattle.dsa_obeys.proofs.Filters.{filter-in, filter-out}

-- Full is not kept
full-unstored : (e : Event) (r : Reply) → is_full_reply e r ≡ true → is_stored r ≡ false
full-unstored e r h = ap is_stored (equal-replies r (full_reply e) h) ∙ unstored e
  where
    unstored : (e : Event) → is_stored (full_reply e) ≡ false
    unstored event.Poll = refl
    unstored _ = refl

-- where the steps lead, from the state that the history leads to
pub record LeadsOn (caps : Caps) (history : List Step) (s : State) (steps : List Step) : Type 0 where
  pub end : State
  pub answers : replay_from (Some s) (with_answers steps) ≡ Some end
  pub stored : replay caps (history ++ stored_steps steps) ≡ Some end

is-next : (s : State) (step : Step) (o : Option State) → next s step.event step.reply ≡ o → is_some o ≡ true
    → (s' : State) × (next s step.event step.reply ≡ Some s')
is-next s step None e h = absurd cc
is-next s step (Some s') e h = (s', e)

module _ (caps : Caps) (capacity : ℕ) where
  abbrev Further : List Step → Type 0
  Further steps = (history : List Step) (s : State) → is_run_after caps capacity history steps ≡ true
      → replay caps history ≡ Some s → LeadsOn caps history s steps

  module _ (history : List Step) (s : State) (step : Step) (steps : List Step) (further : Further steps)
      (reaches : replay caps history ≡ Some s) where
    abbrev Run : List Step → Type 0
    Run stored = is_run_after caps capacity (history ++ stored) steps ≡ true

    lost : is_stored step.reply ≡ false → Run (stored_steps (step ∷ []))
        → LeadsOn caps history s steps
    lost un run = further history s
        (subst (λ h. is_run_after caps capacity h steps ≡ true)
        (ap (λ xs. history ++ xs) (filter-out (λ (step : Step). is_stored step.reply) step [] un)
        ∙ append-nil history) run)
        reaches

    unstored : is_stored step.reply ≡ false → stored_steps (step ∷ steps) ≡ stored_steps steps
    unstored un = filter-out (λ (step : Step). is_stored step.reply) step steps un

    full : is_full_reply step.event step.reply ≡ true → Run (stored_steps (step ∷ []))
        → LeadsOn caps history s (step ∷ steps)
    full is run =
        let un = full-unstored step.event step.reply is in
        let on = lost un run in
        record {
          end = on.end;
          answers = ap (replay_from (Some s))
              (filter-out (λ (step : Step). not (is_full_reply step.event step.reply)) step steps (ap not is))
              ∙ on.answers;
          stored = ap (λ xs. replay caps (history ++ xs)) (unstored un) ∙ on.stored;
        }

    answered : (s' : State) → is_full_reply step.event step.reply ≡ false → next s step.event step.reply ≡ Some s'
        → Run (stored_steps (step ∷ [])) → LeadsOn caps history s (step ∷ steps)
    answered s' other leads run = go (is_stored step.reply) refl
      where
        keeps : replay_from (Some s) (with_answers (step ∷ steps)) ≡ replay_from (Some s') (with_answers steps)
        keeps = ap (replay_from (Some s))
            (filter-in (λ (step : Step). not (is_full_reply step.event step.reply)) step steps (ap not other))
            ∙ ap (λ o. replay_from o (with_answers steps)) leads

        go : (b : Bool) → is_stored step.reply ≡ b → LeadsOn caps history s (step ∷ steps)
        go false un =
            let same : s' ≡ s = next_keeps s s' step.event step.reply leads un in
            let on = lost un run in
            record {
              end = on.end;
              answers = keeps ∙ ap (λ z. replay_from (Some z) (with_answers steps)) same ∙ on.answers;
              stored = ap (λ xs. replay caps (history ++ xs)) (unstored un) ∙ on.stored;
            }
        go true kept =
            let one = filter-in (λ (step : Step). is_stored step.reply) step [] kept in
            let on = further (history ++ step ∷ []) s'
            (subst (λ xs. is_run_after caps capacity (history ++ xs) steps ≡ true) one run)
            (replay-snoc caps history step
            ∙ ap (option_and_then (λ s. next s step.event step.reply)) reaches ∙ leads) in
            record {
              end = on.end;
              answers = keeps ∙ on.answers;
              stored = ap (λ xs. replay caps (history ++ xs))
                  (filter-in (λ (step : Step). is_stored step.reply) step steps kept)
                  ∙ ap (replay caps) (sym (append_assoc history (step ∷ []) (stored_steps steps))) ∙ on.stored;
            }

    step-leads : may_follow caps capacity history step ≡ true → Run (stored_steps (step ∷ []))
        → LeadsOn caps history s (step ∷ steps)
    step-leads may run = go (is_full_reply step.event step.reply) refl (length history == capacity) refl may
      where
        go : (f : Bool) → is_full_reply step.event step.reply ≡ f → (b : Bool) → (length history == capacity) ≡ b
            → cond b (is_full_reply step.event step.reply)
            (is_some (option_and_then (λ s. next s step.event step.reply) (replay caps history))) ≡ true
            → LeadsOn caps history s (step ∷ steps)
        go true is b room h = full is run
        go false other true room h = not-both _ h other
        go false other false room h =
            let n = is-next s step (next s step.event step.reply) refl
            (ap (λ o. is_some (option_and_then (λ s. next s step.event step.reply) o)) (sym reaches) ∙ h) in
            answered n.0 other n.1 run

  pub run-leads : (steps : List Step) → Further steps
  run-leads [] history s run reaches = record {
    end = s;
    answers = refl;
    stored = ap (replay caps) (append-nil history) ∙ reaches;
  }
  run-leads (step ∷ steps) history s run reaches =
      let p = and_parts _ _ run in
      step-leads history s step steps (run-leads steps) reaches p.0 p.1

-- what is stored of a step and of those behind it
stored-first : (step : Step) (steps : List Step)
    → stored_steps (step ∷ []) ++ stored_steps steps ≡ stored_steps (step ∷ steps)
stored-first step steps = joined (is_stored step.reply) refl
  where
    joined : (b : Bool) → is_stored step.reply ≡ b
        → stored_steps (step ∷ []) ++ stored_steps steps ≡ stored_steps (step ∷ steps)
    joined true e = ap (λ xs. xs ++ stored_steps steps) (filter-in (λ (step : Step). is_stored step.reply) step [] e)
        ∙ sym (filter-in (λ (step : Step). is_stored step.reply) step steps e)
    joined false e = ap (λ xs. xs ++ stored_steps steps) (filter-out (λ (step : Step). is_stored step.reply) step [] e)
        ∙ sym (filter-out (λ (step : Step). is_stored step.reply) step steps e)

-- the second part of a run is a run after the first
pub run-behind : (caps : Caps) (capacity : ℕ) (history before steps : List Step)
    → is_run_after caps capacity history (before ++ steps) ≡ true
    → is_run_after caps capacity (history ++ stored_steps before) steps ≡ true
run-behind caps capacity history [] steps run =
    subst (λ h. is_run_after caps capacity h steps ≡ true) (sym (append-nil history)) run
run-behind caps capacity history (step ∷ before) steps run = subst (λ h. is_run_after caps capacity h steps ≡ true)
    (append_assoc history (stored_steps (step ∷ [])) (stored_steps before)
    ∙ ap (λ xs. history ++ xs) (stored-first step before))
    (run-behind caps capacity (history ++ stored_steps (step ∷ [])) before steps (and_parts _ _ run).1)

-- ---- steps that may come are a run

-- steps that may follow one another are a run, where there is room, and lead where the stored ones do
pub record RunsOn (caps : Caps) (capacity : ℕ) (history steps : List Step) (end : State) : Type 0 where
  pub runs : is_run_after caps capacity history steps ≡ true
  pub stored : replay caps (history ++ stored_steps steps) ≡ Some end

module _ (caps : Caps) (capacity : ℕ) (end : State) where
  abbrev OnFrom : List Step → Type 0
  OnFrom steps = (history : List Step) (s : State) → replay caps history ≡ Some s
      → replay_from (Some s) steps ≡ Some end → length history + length steps ≤ capacity
      → RunsOn caps capacity history steps end

  module _ (history : List Step) (s : State) (step : Step) (steps : List Step) (further : OnFrom steps)
      (reaches : replay caps history ≡ Some s) (room : length history + length (step ∷ steps) ≤ capacity) where
    may : (s' : State) → next s step.event step.reply ≡ Some s' → may_follow caps capacity history step ≡ true
    may s' leads =
        ap (λ b. cond b (is_full_reply step.event step.reply)
        (is_some (option_and_then (λ s. next s step.event step.reply) (replay caps history))))
        (ne_eqb (length history) capacity (λ e. omega (arith, e, room)))
        ∙ ap (λ o. is_some (option_and_then (λ s. next s step.event step.reply) o)) reaches ∙ ap is_some leads

    on : (b : Bool) → is_stored step.reply ≡ b → (s' : State) → next s step.event step.reply ≡ Some s'
        → replay_from (Some s') steps ≡ Some end → RunsOn caps capacity history (step ∷ steps) end
    on true kept s' leads rest =
        let one = filter-in (λ (step : Step). is_stored step.reply) step [] kept in
        let more = further (history ++ step ∷ []) s'
        (replay-snoc caps history step
        ∙ ap (option_and_then (λ s. next s step.event step.reply)) reaches ∙ leads) rest
        (omega (arith, room, length_push history step)) in
        record {
          runs = and_from _ _ (may s' leads)
              (subst (λ xs. is_run_after caps capacity (history ++ xs) steps ≡ true) (sym one) more.runs);
          stored = ap (λ xs. replay caps (history ++ xs))
              (filter-in (λ (step : Step). is_stored step.reply) step steps kept)
              ∙ ap (replay caps) (sym (append_assoc history (step ∷ []) (stored_steps steps))) ∙ more.stored;
        }
    on false lost s' leads rest =
        let same : s' ≡ s = next_keeps s s' step.event step.reply leads lost in
        let none = filter-out (λ (step : Step). is_stored step.reply) step [] lost in
        let more = further history s reaches (ap (λ z. replay_from (Some z) steps) (sym same) ∙ rest)
        (omega (arith, room)) in
        record {
          runs = and_from _ _ (may s' leads) (subst (λ h. is_run_after caps capacity h steps ≡ true)
              (sym (ap (λ xs. history ++ xs) none ∙ append-nil history)) more.runs);
          stored = ap (λ xs. replay caps (history ++ xs))
              (filter-out (λ (step : Step). is_stored step.reply) step steps lost) ∙ more.stored;
        }

    step-on : (o : Option State) → next s step.event step.reply ≡ o → replay_from o steps ≡ Some end
        → RunsOn caps capacity history (step ∷ steps) end
    step-on None leads rest = absurd (replay_none steps end rest)
    step-on (Some s') leads rest = on (is_stored step.reply) refl s' leads rest

  pub runs-on : (steps : List Step) → OnFrom steps
  runs-on [] history s reaches rest room = record {
    runs = refl;
    stored = ap (replay caps) (append-nil history) ∙ reaches ∙ rest;
  }
  runs-on (step ∷ steps) history s reaches rest room =
      step-on history s step steps (runs-on steps) reaches room (next s step.event step.reply) refl rest

-- a run, and one after it, are a run
pub run-joined : (caps : Caps) (capacity : ℕ) (history before steps : List Step)
    → is_run_after caps capacity history before ≡ true
    → is_run_after caps capacity (history ++ stored_steps before) steps ≡ true
    → is_run_after caps capacity history (before ++ steps) ≡ true
run-joined caps capacity history [] steps first rest =
    subst (λ h. is_run_after caps capacity h steps ≡ true) (append-nil history) rest
run-joined caps capacity history (step ∷ before) steps first rest =
    let p = and_parts _ _ first in
    and_from _ _ p.0 (run-joined caps capacity (history ++ stored_steps (step ∷ [])) before steps p.1
    (subst (λ h. is_run_after caps capacity h steps ≡ true)
    (ap (λ xs. history ++ xs) (sym (stored-first step before))
    ∙ sym (append_assoc history (stored_steps (step ∷ [])) (stored_steps before))) rest))
