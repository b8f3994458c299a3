-- Which moves take an entry from a queue, and which end one.
use Rattle.dsa_book.specs.declared.answer.Reply.TheVariants as reply
use Rattle.dsa_book.specs.declared.event.Event.TheVariants as event
use Rattle.dsa_parties.specs.declared.places.Move.TheVariants as move
use Rattle.std.proofs.Common.{◌≡◌, ◌==◌, ℕ, get_or, Bool, true, false, cond, Option, Some, None, refl, ap, ◌∙◌, subst}
use Rattle.std.specs.Prelude.{option_map, option_and_then, find}
use Rattle.std.proofs.lemmas.Option.{same_Some}
use Rattle.dsa_base.specs.Rows.{when}
use Rattle.dsa_store.specs.Content.{HeldEntry}
use Rattle.dsa_book.specs.declared.{event.Event.{Event}, answer.{Reply.{Reply}, DispatchAnswer.TheVariants.{Taken}}}
use Rattle.dsa_book.specs.{Choice.{from_queue, choice_of}, State.{State, ticket_of_entry}, Machine.{may_choose, next}}
use Rattle.dsa_book.specs.Work.{qualifies, running_on}
use Rattle.dsa_book.proofs.Nexts.{next-is}
use Rattle.dsa_keys.specs.{Labels.{Labels}, Key.{Key, key}, Steps.{event_by_label}}
use Rattle.dsa_keys.specs.Parties.{Offer, World, labels_for, world_with, world_after, world_after_offer}
use Rattle.dsa_parties.specs.declared.places.{ClientTurn.{ClientTurn}, NextMember.{NextMember}, Move.{Move}}
use Rattle.dsa_parties.specs.declared.script.{Act.{Act}}
use Rattle.dsa_parties.specs.declared.script.{Act.TheVariants.{Issue, Poll, WriteQueue, WriteGroup, ClearError}}
use Rattle.dsa_parties.specs.declared.script.Script.{Script}
use Rattle.dsa_parties.specs.Standing.{Standing, turn_of, act_of}
use Rattle.dsa_parties.specs.Offers.{parties_of, offer_of, act_event, submission_event, bare_offer, next_member}
use Rattle.dsa_parties.specs.Offers.{has_engine, label_ticket}
use Rattle.dsa_explore.specs.Search.{queue_taken_from}

to-choice : (r : Reply) (q : ℕ) → queue_taken_from r ≡ Some q → choice_of r ≡ from_queue q
to-choice (reply.Dispatch (Taken ticket p)) q e = ap from_queue (same_Some p q e)
to-choice r q e = absurd cc

-- a reply that takes from a queue answers a dispatch, of an engine that may take from it
pub taken-by : (s s' : State) (e : Event) (r : Reply) (q : ℕ) → next s e r ≡ Some s'
    → queue_taken_from r ≡ Some q → (engine : ℕ) × (e ≡ event.Dispatch engine) × (qualifies s.work engine q ≡ true)
taken-by s s' e r q step is =
    go e (subst (λ choice. may_choose s e choice ≡ true) (to-choice r q is) (next-is s s' e r step).0)
  where
    go : (e : Event) → may_choose s e (from_queue q) ≡ true
        → (engine : ℕ) × (e ≡ event.Dispatch engine) × (qualifies s.work engine q ≡ true)
    go (event.Dispatch engine) may = (engine, refl, may)
    go (event.Submit client queue portal kind desc) may = absurd cc
    go (event.Fetch engine desc) may = absurd cc
    go (event.Start engine) may = absurd cc
    go (event.Finish engine ticket outcome) may = absurd cc
    go (event.Issue command) may = absurd cc
    go event.Poll may = absurd cc
    go (event.WriteQueue queue config) may = absurd cc
    go (event.WriteGroup group config) may = absurd cc
    go event.ClearError may = absurd cc

named-dispatch : (m : Labels) (s : State) (e : Event) (engine : ℕ)
    → event_by_label m s e ≡ Some (event.Dispatch engine) → e ≡ event.Dispatch engine
named-dispatch m s (event.Finish other ticket outcome) engine h =
    go (find (λ (pair : HeldEntry). m pair.1.name == ticket.name) (running_on s.work other)) h
  where
    go : (o : Option HeldEntry)
        → option_map (λ (pair : HeldEntry). event.Finish other (ticket_of_entry pair) outcome) o
        ≡ Some (event.Dispatch engine) → event.Finish other ticket outcome ≡ event.Dispatch engine
    go None e = absurd cc
    go (Some pair) e = absurd cc
named-dispatch m s e engine h = same_Some e (event.Dispatch engine) h

pub whens : (b : Bool) (x o : Offer) → when b x ≡ Some o → x ≡ o
whens true x o h = same_Some x o h
whens false x o h = absurd cc

-- a move that asks for a dispatch is one
dispatch-only : (script : Script) (stand : Standing) (k : Key) (m : Move) (o : Offer) (engine : ℕ)
    → offer_of script stand k m ≡ Some o → o.event ≡ event.Dispatch engine → m ≡ move.Dispatch engine
dispatch-only script stand k (move.Client c) o engine h e = go (turn_of script stand c) h
  where
    go : (t : Option ClientTurn)
        → option_map (λ (turn : ClientTurn). record { event = submission_event turn; label = turn.place.next }) t
        ≡ Some o → move.Client c ≡ move.Dispatch engine
    go None h = absurd cc
    go (Some turn) h =
        let bad : submission_event turn ≡ event.Dispatch engine = ap (λ (z : Offer). z.event) (same_Some _ o h) ∙ e in
        absurd cc
dispatch-only script stand k (move.Administrator a) o engine h e = go (act_of script stand a) h
  where
    bad : (act : Act) {X : Type 0} → act_event act ≡ event.Dispatch engine → X
    bad (Issue command again) e = absurd cc
    bad (Poll until) e = absurd cc
    bad (WriteQueue queue config) e = absurd cc
    bad (WriteGroup group config) e = absurd cc
    bad ClearError e = absurd cc

    go : (t : Option Act) → option_map (λ act. bare_offer script (act_event act)) t ≡ Some o
        → move.Administrator a ≡ move.Dispatch engine
    go None h = absurd cc
    go (Some act) h = bad act (ap (λ (z : Offer). z.event) (same_Some _ o h) ∙ e)
dispatch-only script stand k (move.Dispatch other) o engine h e =
    let is : event.Dispatch other ≡ event.Dispatch engine = ap (λ (z : Offer). z.event) (whens _ _ o h) ∙ e in
    let same : other ≡ engine = cc in
    ap move.Dispatch same
dispatch-only script stand k (move.Start other) o engine h e =
    let bad : event.Start other ≡ event.Dispatch engine = ap (λ (z : Offer). z.event) (whens _ _ o h) ∙ e in
    absurd cc
dispatch-only script stand k (move.Finish other label outcome) o engine h e =
    let bad : event.Finish other (label_ticket label) outcome ≡ event.Dispatch engine =
    ap (λ (z : Offer). z.event) (whens _ _ o h) ∙ e in
    absurd cc
dispatch-only script stand k (move.Fetch other) o engine h e =
    go (has_engine script other) (option_and_then (next_member script.entries.items) (get_or k.notes other None)) h
  where
    go : (b : Bool) (n : Option NextMember)
        → cond b
        (option_map (λ (next : NextMember). record { event = event.Fetch other next.desc; label = next.label }) n)
        None ≡ Some o → move.Fetch other ≡ move.Dispatch engine
    go false n h = absurd cc
    go true None h = absurd cc
    go true (Some member) h =
        let bad : event.Fetch other member.desc ≡ event.Dispatch engine =
        ap (λ (z : Offer). z.event) (same_Some _ o h) ∙ e in
        absurd cc

-- ---- moves that may come

-- what an offer comes to: the event by name, and the state after it
pub record IsMade (script : Script) (w w' : World Standing) (m : Move) (r : Reply) : Type 0 where
  pub offer : Offer
  pub offered : offer_of script w.places (key w.labels w.state) m ≡ Some offer
  pub event : Event
  pub named : event_by_label (labels_for w offer) w.state offer.event ≡ Some event
  pub state : State
  pub step : next w.state event r ≡ Some state

pub is-made : (script : Script) (w w' : World Standing) (m : Move) (r : Reply)
    → world_after (parties_of script) w m r ≡ Some w' → IsMade script w w' m r
is-made script w w' m r h = go (offer_of script w.places (key w.labels w.state) m) refl h
  where
    after : (o : Offer) → offer_of script w.places (key w.labels w.state) m ≡ Some o → (e : Event)
        → event_by_label (labels_for w o) w.state o.event ≡ Some e → (p : Option State) → next w.state e r ≡ p
        → option_map (world_with (parties_of script) w m r o) p ≡ Some w' → IsMade script w w' m r
    after o is e by None q h = absurd cc
    after o is e by (Some s) q h = record { offer = o; offered = is; event = e; named = by; state = s; step = q }

    named : (o : Offer) → offer_of script w.places (key w.labels w.state) m ≡ Some o → (p : Option Event)
        → event_by_label (labels_for w o) w.state o.event ≡ p
        → option_map (world_with (parties_of script) w m r o) (option_and_then (λ e. next w.state e r) p) ≡ Some w'
        → IsMade script w w' m r
    named o is None q h = absurd cc
    named o is (Some e) q h = after o is e q (next w.state e r) refl h

    go : (p : Option Offer) → offer_of script w.places (key w.labels w.state) m ≡ p
        → option_and_then (world_after_offer (parties_of script) w m r) p ≡ Some w' → IsMade script w w' m r
    go None q h = absurd cc
    go (Some o) q h = named o q (event_by_label (labels_for w o) w.state o.event) refl h

-- a move whose reply takes from a queue is a dispatch, of an engine that may take from it
pub taken-in : (script : Script) (w w' : World Standing) (m : Move) (r : Reply) (q : ℕ)
    → world_after (parties_of script) w m r ≡ Some w' → queue_taken_from r ≡ Some q
    → (engine : ℕ) × (m ≡ move.Dispatch engine) × (qualifies w.state.work engine q ≡ true)
taken-in script w w' m r q h is =
    let x = is-made script w w' m r h in
    let t = taken-by w.state x.state x.event r q x.step is in
    let e = named-dispatch (labels_for w x.offer) w.state x.offer.event t.0 (x.named ∙ ap (λ z. Some z) t.1) in
    (t.0, dispatch-only script w.places (key w.labels w.state) m x.offer t.0 x.offered e, t.2)
