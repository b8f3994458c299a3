-- Steps by labels, one after another.
use Rattle.std.specs.Prelude.{◌≡◌, ℕ, ◌<◌, Bool, ◌||◌, cond, List, [], ◌∷◌, Option, Some, option_map, option_and_then}
use Rattle.std.specs.Prelude.{unwrap_or, ⊤}
use Rattle.dsa_base.specs.Lists.{In}
use Rattle.dsa_book.specs.declared.{event.Event.{Event}, answer.Reply.{Reply}}
use Rattle.dsa_book.specs.{State.{State}, Totals.{is_accepted, is_fetched}}
use Rattle.dsa_keys.specs.Labels.{Labels, with_next_label, labelled_reply}
use Rattle.dsa_keys.specs.{Key.{key}, Steps.{next_by_label}}

-- an event by labels, the reply to it, and the label of an entry that it may bring in
pub record LabelledStep : Type 0 where
  pub event : Event
  pub reply : Reply
  pub label : ℕ

-- the labels with which the step is made
abbrev pub labels_at : Labels → State → LabelledStep → Labels
labels_at labels s step = with_next_label labels s step.label

-- the state after the step, where it may come
abbrev pub after_labelled : Labels → State → LabelledStep → Option State
after_labelled labels s step = next_by_label (labels_at labels s step) s step.event step.reply

-- the labels and the state after these steps, where each may follow those before it
abbrev pub replay_by_labels : Labels → State → List LabelledStep → Option (Labels × State)
replay_by_labels labels s [] = Some (labels, s)
replay_by_labels labels s (step ∷ steps) =
    option_and_then (λ s'. replay_by_labels (labels_at labels s step) s' steps) (after_labelled labels s step)

-- these steps, each with its reply by labels
abbrev pub told_by_labels : Labels → State → List LabelledStep → List LabelledStep
told_by_labels labels s [] = []
told_by_labels labels s (step ∷ steps) =
    record step { reply = labelled_reply (labels_at labels s step) step.reply }
    ∷ unwrap_or (option_map (λ s'. told_by_labels (labels_at labels s step) s' steps) (after_labelled labels s step)) []

-- the reply gives a name
abbrev pub gives_name : Reply → Bool
gives_name reply = is_accepted reply || is_fetched reply

-- the labels in use after the step: one more where it gives a name
abbrev pub used_after : List ℕ → LabelledStep → List ℕ
used_after used step = cond (gives_name step.reply) (step.label ∷ used) used

-- no step has a label that is in use before it
abbrev pub AreFreshLabels : List ℕ → List LabelledStep → Type 0
AreFreshLabels used [] = ⊤
AreFreshLabels used (step ∷ steps) = (In step.label used → ⊥) × AreFreshLabels (used_after used step) steps

-- the labels of the names that were given are in use
abbrev pub AreInUse : List ℕ → Labels → State → Type 0
AreInUse used labels s = (name : ℕ) → name < s.work.setup.next_name → In (labels name) used

-- steps from t tell the same as these from s to s', and leave equal keys
pub record HasSameReplay (labels others : Labels) (s t : State) (steps : List LabelledStep) (labels' : Labels)
    (s' : State) : Type 0 where
  pub steps' : List LabelledStep
  pub others' : Labels
  pub t' : State
  pub leads : replay_by_labels others t steps' ≡ Some (others', t')
  pub tells : told_by_labels labels s steps ≡ told_by_labels others t steps'
  pub keys : key labels' s' ≡ key others' t'
