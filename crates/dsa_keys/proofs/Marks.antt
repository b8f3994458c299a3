-- The mark of an active command is no name that comes later: a state is alike to itself, and what is alike keeps it.
use Rattle.std.proofs.Common.{true, ◌≡◌, List, [], ◌∷◌, Option, Some, None, refl, ap, subst}
use Rattle.dsa_regs.specs.{declared.Caps.{Caps}, Caps.{cell_count}}
use Rattle.dsa_store.specs.{declared.entry.Cell.{Cell}, Content.{is_free}}
use Rattle.dsa_book.specs.declared.event.{Step.{Step}, Event.{Event}}
use Rattle.dsa_book.specs.declared.event.Event.TheVariants.{Submit, Dispatch, Fetch, Start, Finish, Issue, Poll}
use Rattle.dsa_book.specs.declared.event.Event.TheVariants.{WriteQueue, WriteGroup, ClearError}
use Rattle.dsa_book.specs.declared.answer.{Reply.{Reply}, Ticket.{Ticket}}
use Rattle.dsa_book.specs.State.{State, is_ticket, opening}
use Rattle.dsa_book.specs.Machine.{next, may_choose, replay_from, replay}
use Rattle.dsa_book.specs.Choice.{Choice, nothing, in_cell, from_queue, choice_of}
use Rattle.dsa_book.proofs.{Nexts.{next-is}, Replay.{replay_none}}
use Rattle.dsa_laws.specs.WellFormed.{IsWellFormed}
use Rattle.dsa_laws.proofs.{Changes.{next-change}, Histories.{well_formed-change, well_formed-opening}}
use Rattle.dsa_keys.proofs.Alike.{IsLabelledNext}
use Rattle.dsa_keys.proofs.Steps.{SameTicket}
use Rattle.dsa_keys.specs.Labels.{Labels}
use Rattle.dsa_keys.specs.Marks.{HasLawfulMark}
use Rattle.dsa_keys.proofs.{Known.{IsKnown, known, apart}, Steps.{makes-same}, Keys.{alike-of-key}}
use Rattle.dsa_keys.proofs.{SameSteps.{mark-of, entering}}

-- each name for itself
abbrev own : Labels
own name = name

own-labels : (s : State) → IsLabelledNext own s
own-labels s a b la lb e = e

-- the ticket of an event, if it has one
abbrev ticket_in : Event → Ticket
ticket_in (Finish engine ticket outcome) = ticket
ticket_in event = record { cell = record { 0 = 0 }; name = 0 }

module _ (caps : Caps) (s : State) (w : IsWellFormed caps s) where
  knows : IsKnown own s.work
  knows = known caps own s w (apart own s (own-labels s))

  own-ticket : (event : Event) → SameTicket own own s s event (ticket_in event)
  own-ticket (Finish engine ticket outcome) = λ x y p.
      ap (is_ticket ticket) (knows.labels x y p.1.0 p.1.1 (ap (λ f. f.label) p.0))
  own-ticket (Submit client queue portal kind desc) = tt
  own-ticket (Dispatch engine) = tt
  own-ticket (Fetch engine desc) = tt
  own-ticket (Start engine) = tt
  own-ticket (Issue command) = tt
  own-ticket Poll = tt
  own-ticket (WriteQueue queue config) = tt
  own-ticket (WriteGroup group config) = tt
  own-ticket ClearError = tt

  own-cell : (event : Event) (choice : Choice) → may_choose s event choice ≡ true → (cell : Cell)
      × ((c : Cell) → choice ≡ in_cell c → is_free (cell_count s.work.setup.caps) s.work.content cell ≡ true)
  own-cell event nothing may = (record { 0 = 0 }, λ c e. absurd cc)
  own-cell event (from_queue q) may = (record { 0 = 0 }, λ c e. absurd cc)
  own-cell event (in_cell c) may = (c, λ d e. entering s event c may)

  next-marked : (s' : State) (event : Event) (r : Reply) → HasLawfulMark s → next s event r ≡ Some s' → HasLawfulMark s'
  next-marked s' event r marked step =
      let a = alike-of-key s s knows knows refl marked marked in
      let cell = own-cell event (choice_of r) (next-is s s' event r step).0 in
      let f = makes-same caps own own s s' s event r (ticket_in event) w w (own-labels s) (own-labels s) refl a
      (own-ticket event) cell.0 cell.1 step in
      (mark-of own own s'.work f.t'.work s'.active f.t'.active f.agree.alike.active).0

-- so it is in each state that a history leads to
marked-from : (caps : Caps) (steps : List Step) (s s' : State) → IsWellFormed caps s → HasLawfulMark s
    → replay_from (Some s) steps ≡ Some s' → HasLawfulMark s'
marked-from caps [] s s' w marked e = let is : s ≡ s' = cc in subst HasLawfulMark is marked
marked-from caps (x ∷ steps) s s' w marked e =
    go (λ t a b c. marked-from caps steps t s' a b c) (next s x.event x.reply) refl e
  where
    go : ((t : State) → IsWellFormed caps t → HasLawfulMark t → replay_from (Some t) steps ≡ Some s' → HasLawfulMark s')
        → (o : Option State) → next s x.event x.reply ≡ o → replay_from o steps ≡ Some s' → HasLawfulMark s'
    go more None n e = absurd (replay_none steps s' e)
    go more (Some t) n e = more t (well_formed-change caps s t w (next-change s t x.event x.reply n))
        (next-marked caps s w t x.event x.reply marked n) e

pub replay-marked : (caps : Caps) (history : List Step) (s : State) → replay caps history ≡ Some s → HasLawfulMark s
replay-marked caps history s e = marked-from caps history (opening caps) s (well_formed-opening caps)
    (λ a h. absurd cc) e
