-- Devices that are ready for a move: labels and room, and what cannot be made.
use Rattle.dsa_book.specs.declared.event.Event.TheVariants as event
use Rattle.std.proofs.Common.{◌≡◌, ℕ, ◌+◌, ◌<◌, ◌≤◌, Bool, true, false, cond, List, [], ◌∷◌, ◌++◌, Option, Some}
use Rattle.std.proofs.Common.{None, refl, sym, ap, ◌∙◌, subst, length, length-append, ◌⊎◌, inl, inr, ⊎_elim, arith}
use Rattle.std.specs.Prelude.{option_map}
use Rattle.dsa_book.specs.declared.{event.{Event.{Event}, Step.{Step}}, answer.Reply.{Reply}}
use Rattle.dsa_book.specs.{State.{State, Work}, Work.{qualifies}, Machine.{next, is_stored, history_after}}
use Rattle.dsa_laws.proofs.Forgotten.{next-grows}
use Rattle.dsa_keys.specs.{Steps.{event_by_label}}
use Rattle.dsa_keys.specs.Parties.{Offer, World, offer_at, labels_for}
use Rattle.dsa_device.specs.Running.{Running, after_answer, running_after}
use Rattle.dsa_parties.specs.declared.{script.Script.{Script}}
use Rattle.dsa_parties.specs.{Standing.{Standing}, Offers.{parties_of}}
use Rattle.dsa_explore.specs.declared.stored.Try.{Try}
use Rattle.dsa_explore.specs.{Ready.{is_filled, IsOneMore, CannotFollow, CannotMake}}
use Rattle.dsa_explore.proofs.Covers.{is-made, taken-by}
use Rattle.std.proofs.lemmas.{Bool.{cases_eq, ne_eqb}, Option.{same_Some}}

-- ---- room

stored-more : (history : List Step) (step : Step) → length (history_after history step) ≤ length history + 1
stored-more history step = go (is_stored step.reply)
  where
    go : (b : Bool) → length (cond b (history ++ step ∷ []) history) ≤ length history + 1
    go true = omega (arith, length-append history (step ∷ []))
    go false = omega arith

-- a device whose history has room stores one step more at most
pub one-more : (d d' : Running) (event : Event) (reply : Reply) → after_answer d event reply ≡ Some d'
    → is_filled d ≡ false → IsOneMore d d'
one-more d d' event reply after room = go (next d.state event reply) (rw room at after)
  where
    go : (o : Option State) → option_map (running_after d event reply) o ≡ Some d' → IsOneMore d d'
    go None e = absurd cc
    go (Some s) e =
        subst (IsOneMore d) (same_Some (running_after d event reply s) d' e)
        (record { few = stored-more d.history (record { event = event; reply = reply }); same_room = refl })

-- a history that has fewer steps than room is not filled
pub not-filled : (d : Running) → length d.history < d.capacity → is_filled d ≡ false
not-filled d few = ne_eqb (length d.history) d.capacity (λ (e : length d.history ≡ d.capacity). omega (arith, few, e))

-- ---- labels

-- a step gives the label to the last name, or to the next one
pub labels-kept : (labels : List ℕ) (s t : State) (event : Event) (reply : Reply)
    → length labels ≡ s.work.setup.next_name + 1 → next s event reply ≡ Some t
    → (length labels ≡ t.work.setup.next_name) ⊎ (length labels ≡ t.work.setup.next_name + 1)
labels-kept labels s t event reply count step =
    let grows = next-grows s t event reply step in
    ⊎_elim (λ (same : t.work.setup.next_name ≡ s.work.setup.next_name). inr (omega (arith, count, same)))
    (λ other. inl (omega (arith, count, other, grows.0, most (is_stored reply) grows.1)))
    (cases_eq t.work.setup.next_name s.work.setup.next_name)
  where
    most : (b : Bool) → t.work.setup.next_name ≤ s.work.setup.next_name + cond b 1 0
        → t.work.setup.next_name ≤ s.work.setup.next_name + 1
    most true h = h
    most false h = omega (arith, h)

-- ---- what cannot be made

-- an entry is taken by a dispatch alone
pub no-dispatch : (s : State) (e : Event) (q : ℕ) → ((engine : ℕ) → e ≡ event.Dispatch engine → ⊥)
    → CannotFollow s e (Some q)
no-dispatch s e q other t reply step is =
    let taken = taken-by s t e reply q step is in
    other taken.0 taken.1

-- and from a queue for which the engine qualifies
pub not-taken : (w : Work) (e e' q : ℕ) → event.Dispatch e ≡ event.Dispatch e' → qualifies w e q ≡ false
    → qualifies w e' q ≡ true → ⊥
not-taken w e e' q same off on =
    let engines : e ≡ e' = cc in
    let clash : false ≡ true = sym off ∙ ap (λ (n : ℕ). qualifies w n q) engines ∙ on in
    absurd cc

module _ (script : Script) (w : World Standing) (tried : Try) where
  pub not-offered : offer_at (parties_of script) w tried.by ≡ None → CannotMake script w tried
  not-offered none v reply leads taken =
      let x = is-made script w v tried.by reply leads in
      let bad : None ≡ Some x.offer = sym none ∙ x.offered in
      absurd cc

  pub not-named : (o : Offer) → offer_at (parties_of script) w tried.by ≡ Some o
      → event_by_label (labels_for w o) w.state o.event ≡ None → CannotMake script w tried
  not-named o offered none v reply leads taken =
      let x = is-made script w v tried.by reply leads in
      let same : x.offer ≡ o = same_Some x.offer o (sym x.offered ∙ offered) in
      let bad : None ≡ Some x.event = sym none
      ∙ ap (λ (z : Offer). event_by_label (labels_for w z) w.state z.event) (sym same) ∙ x.named in
      absurd cc

  pub not-followed : (o : Offer) (e : Event) → offer_at (parties_of script) w tried.by ≡ Some o
      → event_by_label (labels_for w o) w.state o.event ≡ Some e → CannotFollow w.state e tried.queue
      → CannotMake script w tried
  not-followed o e offered named cannot v reply leads taken =
      let x = is-made script w v tried.by reply leads in
      let same : x.offer ≡ o = same_Some x.offer o (sym x.offered ∙ offered) in
      let event : x.event ≡ e = same_Some x.event e
      (sym x.named ∙ ap (λ (z : Offer). event_by_label (labels_for w z) w.state z.event) same ∙ named) in
      cannot x.state reply (subst (λ (z : Event). next w.state z reply ≡ Some x.state) event x.step) taken
