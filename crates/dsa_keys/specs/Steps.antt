-- Steps that name entries by labels, and the same step of two states.
use Rattle.std.specs.Prelude.{◌≡◌, ◌==◌, find, Option, Some, option_map, option_and_then}
use Rattle.dsa_regs.specs.declared.Caps.{Caps}
use Rattle.dsa_store.specs.Content.{HeldEntry}
use Rattle.dsa_book.specs.declared.{event.Event.{Event, TheVariants.{Finish}}, answer.Reply.{Reply}}
use Rattle.dsa_book.specs.{State.{State, ticket_of_entry}, Work.{running_on}, Machine.{next}}
use Rattle.dsa_laws.specs.WellFormed.{IsWellFormed}
use Rattle.dsa_keys.specs.Labels.{Labels, HasDistinctLabels, labelled_reply, HaveSameEnds}
use Rattle.dsa_keys.specs.{Key.{key}, Marks.{HasLawfulMark}}

-- the event, where an end has a label for the name in its ticket: it is of the running entry with that label
abbrev pub event_by_label : Labels → State → Event → Option Event
event_by_label labels s (Finish engine ticket outcome) =
    option_map (λ (pair : HeldEntry). Finish engine (ticket_of_entry pair) outcome)
    (find (λ (pair : HeldEntry). labels pair.1.name == ticket.name) (running_on s.work engine))
event_by_label labels s event = Some event

-- the state after such an event with this reply, where it may come
abbrev pub next_by_label : Labels → State → Event → Reply → Option State
next_by_label labels s event reply = option_and_then (λ found. next s found reply) (event_by_label labels s event)

-- such an event may have this reply in the first state, and leads to the second one
abbrev pub LeadsByLabel : Labels → State → Event → Reply → State → Type 0
LeadsByLabel labels s event reply s' = next_by_label labels s event reply ≡ Some s'

-- a state as histories lead to it, whose names have a label each
pub record IsLabelled (caps : Caps) (labels : Labels) (s : State) : Type 0 where
  pub well_formed : IsWellFormed caps s
  pub marked : HasLawfulMark s
  pub distinct : HasDistinctLabels labels s

-- a step from s to s' and one from t to t' tell the same, end the same entries, and leave equal keys
pub record IsSameStep (caps : Caps) (labels others : Labels) (s s' t t' : State) (reply reply' : Reply) : Type 0 where
  pub replies : labelled_reply labels reply ≡ labelled_reply others reply'
  pub ends : HaveSameEnds labels others s.work s'.work t.work t'.work
  pub keys : key labels s' ≡ key others t'
  pub left : IsLabelled caps labels s'
  pub right : IsLabelled caps others t'

-- the event leads from t by the same step as it does from s to s'
pub record HasSameStep (caps : Caps) (labels others : Labels) (s s' t : State) (event : Event) (reply : Reply)
    : Type 0 where
  pub reply' : Reply
  pub t' : State
  pub leads : LeadsByLabel others t event reply' t'
  pub is_same : IsSameStep caps labels others s s' t t' reply reply'
