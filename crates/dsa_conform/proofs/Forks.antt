-- Which queues the answers to one event tell of.
use Rattle.dsa_book.specs.declared.answer.Reply.TheVariants as reply
use Rattle.dsa_book.specs.declared.event.Event.TheVariants as event
use Rattle.std.proofs.Common.{◌≡◌, ◌<◌, ◌≤◌, ◌==◌, ◌+◌, ℕ, Bool, true, false, List, [], ◌∷◌, length, Option, Some, None}
use Rattle.std.proofs.Common.{inl, inr, ◌⊎◌}
use Rattle.std.proofs.Common.{Result, Ok, refl, sym, ap, subst, ◌∙◌, arith}
use Rattle.std.proofs.lemmas.{Option.{same_Some}, Bool.{eqb-true, eqb-false}, List.Elements.{All-contains}}
use Rattle.dsa_base.{specs.{Lists.{In}}, proofs.{Tables.{not-both}, Lists.{In-alone, In-only}}}
use Rattle.dsa_book.specs.declared.{answer.{Reply.{Reply}, DispatchAnswer.TheVariants.{Taken}}, event.{Event.{Event}}}
use Rattle.dsa_book.specs.{State.{State, Work}, Machine.{next, full_reply, reply_of}, Choice.{from_queue}}
use Rattle.dsa_book.specs.Work.{qualifies}
use Rattle.dsa_book.proofs.{EqualReplies.{equal-replies}, Nexts.{next-is}}
use Rattle.dsa_device.specs.Running.{Running}
use Rattle.dsa_device.proofs.Steps.{answered_by_cases}
use Rattle.dsa_scenario.specs.declared.actions.BadWord.{BadWord}
use Rattle.dsa_scenario.specs.declared.run.Record.{Record, TheVariants.{Stepped, Refused}}
use Rattle.dsa_conform.specs.Allowed.{IsAllowed, IsNoDispatch, offer, offers}
use Rattle.dsa_conform.specs.{Seen.{Seen, shows}, Ways.{IsFork, IsOneWay, queue_of_record, queue_of_reply}}
use Rattle.dsa_conform.proofs.SeenAlike.{NoneTaken, event_in}
use Rattle.dsa_conform.proofs.Choices.{each, empty_list, filled_list, none_offered, allowed_is_offered, is_offer}
use Rattle.dsa_conform.proofs.Choices.{is_dispatch, answered_otherwise, offered_is_allowed, below_queues, offer_tells}
use Rattle.dsa_conform.proofs.Choices.{contains-nothing, given}

full-tells : (e : Event) → queue_of_reply (full_reply e) ≡ None
full-tells event.Poll = refl
full-tells _ = refl

-- where no entry is taken, no answer tells of a queue
none_next : (now : Running) (s : State) (e : Event) (r : Reply) → NoneTaken now e
    → (length now.history == now.capacity) ≡ false → next now.state e r ≡ Some s → queue_of_reply r ≡ None
none_next now s e (reply.Dispatch (Taken ticket q)) none room n = absurd (none room ticket q s n)
none_next now s e _ none room n = refl

tells_none : (now : Running) (asked : Result Event BadWord) (entry : Record)
    → ((e : Event) → asked ≡ Ok e → NoneTaken now e) → IsAllowed now asked entry → queue_of_record entry ≡ None
tells_none now asked (Refused fault) none is = refl
tells_none now asked (Stepped x) none is =
    answered_by_cases (λ t. queue_of_reply x.reply ≡ None) now is.after x.event x.reply is.leads
    (λ full told. ap queue_of_reply (equal-replies x.reply (full_reply x.event) told) ∙ full-tells x.event)
    (λ s room n. none_next now s x.event x.reply (none x.event (sym is.answers)) room n)

one_way : (now : Running) (asked : Result Event BadWord) (seen : Seen)
    → ((e : Event) → asked ≡ Ok e → NoneTaken now e) → IsOneWay now asked seen
one_way now asked seen none =
    λ first second is are shown showing. tells_none now asked first none is ∙ sym (tells_none now asked second none are)

-- a history without room, and what is no dispatch
pub full_way : (now : Running) (asked : Result Event BadWord) (seen : Seen)
    → (length now.history == now.capacity) ≡ true → IsOneWay now asked seen
full_way now asked seen full =
    one_way now asked seen (λ e is room t q s n. not-both (length now.history == now.capacity) full room)

pub other_way : (now : Running) (asked : Result Event BadWord) (seen : Seen) → IsNoDispatch asked
    → IsOneWay now asked seen
other_way now asked seen h = one_way now asked seen (λ e is room t q s n.
    let other : is_dispatch (reply_of now.state e (from_queue q)).0 ≡ false =
    answered_otherwise now.state e (from_queue q) (subst (λ a. IsNoDispatch a) is h) in
    let p = next-is now.state s e (reply.Dispatch (Taken t q)) n in
    not-both (is_dispatch (reply_of now.state e (from_queue q)).0) (ap (λ (r : Reply × State). is_dispatch r.0)
    p.1) other)

-- an answer to a dispatch is an offer of one of the queues
pub record IsOfferOf (w : Work) (e : ℕ) (entry : Record) : Type 0 where
  pub queue : ℕ
  pub below : queue < w.setup.caps.queues
  pub is : offer w e queue ≡ Some entry

offered_of : (now : Running) (e : ℕ) (entry : Record) → (length now.history == now.capacity) ≡ false
    → (offers now.state.work e ≡ [] → ⊥) → IsAllowed now (Ok (event.Dispatch e)) entry
    → IsOfferOf now.state.work e entry
offered_of now e entry room some is =
    All-contains (IsOfferOf now.state.work e) (offers now.state.work e) entry
    (each (IsOfferOf now.state.work e) (offer now.state.work e) now.state.work.setup.caps.queues
    (λ k x below h. record { queue = k; below = below; is = h }))
    (allowed_is_offered now e entry room some is)

-- what is the same of all offers that show what was seen is so of all answers
by_offers : (now : Running) (e : ℕ) (seen : Seen) → (length now.history == now.capacity) ≡ false
    → ((first second : Record) → (h : IsOfferOf now.state.work e first) → (k : IsOfferOf now.state.work e second)
    → shows seen first ≡ true → shows seen second ≡ true → h.queue ≡ k.queue)
    → IsOneWay now (Ok (event.Dispatch e)) seen
by_offers now e seen room same = at (length (offers now.state.work e) == 0) refl
  where
    at : (b : Bool) → (length (offers now.state.work e) == 0) ≡ b → IsOneWay now (Ok (event.Dispatch e)) seen
    at true none =
        one_way now (Ok (event.Dispatch e)) seen
        (λ x is. subst (NoneTaken now) (ap (event_in (event.Dispatch e)) is)
        (none_offered now e (empty_list (offers now.state.work e) none)))
    at false some = λ first second is are shown showing.
        let h = offered_of now e first room (filled_list (offers now.state.work e) some) is in
        let k = offered_of now e second room (filled_list (offers now.state.work e) some) are in
        offer_tells now.state.work e h.queue first h.is ∙ ap (λ q. Some q) (same first second h k shown showing)
        ∙ sym (offer_tells now.state.work e k.queue second k.is)

-- an engine without a choice
pub only_choice : (now : Running) (e : ℕ) (seen : Seen) → (length now.history == now.capacity) ≡ false
    → ((q p : ℕ) → q < now.state.work.setup.caps.queues → p < now.state.work.setup.caps.queues
    → qualifies now.state.work e q ≡ true → qualifies now.state.work e p ≡ true → q ≡ p)
    → IsOneWay now (Ok (event.Dispatch e)) seen
only_choice now e seen room one = by_offers now e seen room
    (λ first second h k shown showing. one h.queue k.queue h.below k.below
    (is_offer now.state.work e h.queue first h.is).may (is_offer now.state.work e k.queue second k.is).may)

-- the queues whose offers show what was seen, of which there is at most one
pub only_shown : (now : Running) (e : ℕ) (seen : Seen) (found : List ℕ) → (length now.history == now.capacity) ≡ false
    → ((q : ℕ) → (entry : Record) → q < now.state.work.setup.caps.queues → offer now.state.work e q ≡ Some entry
    → shows seen entry ≡ true → In q found)
    → length found < 2 → IsOneWay now (Ok (event.Dispatch e)) seen
only_shown now e seen found room all few = by_offers now e seen room
    (λ first second h k shown showing.
    let i = all h.queue first h.below h.is shown in
    let j = all k.queue second k.below k.is showing in
    let only : found ≡ h.queue ∷ [] = In-alone h.queue found (omega (arith, few)) i in
    In-only k.queue h.queue (subst (In k.queue) only j))

offers-some : (now : Running) (e q : ℕ) (entry : Record) → offer now.state.work e q ≡ Some entry
    → q < now.state.work.setup.caps.queues → offers now.state.work e ≡ [] → ⊥
offers-some now e q entry is below none =
    contains-nothing (offers now.state.work e) entry none
    (given (offer now.state.work e) now.state.work.setup.caps.queues q entry below is)

-- or more
pub all_shown : (now : Running) (e : ℕ) (seen : Seen) (found : List ℕ) → (length now.history == now.capacity) ≡ false
    → ((q : ℕ) → (entry : Record) → q < now.state.work.setup.caps.queues → offer now.state.work e q ≡ Some entry
    → shows seen entry ≡ true → In q found)
    → ((q : ℕ) → In q found → (entry : Record) × (offer now.state.work e q ≡ Some entry) × (shows seen entry ≡ true))
    → 2 ≤ length found → IsFork now (Ok (event.Dispatch e)) seen found
all_shown now e seen [] room all each many = absurd (omega (arith, many))
all_shown now e seen (q ∷ qs) room all each many =
    let first = each q (inl refl) in
    let is = is_offer now.state.work e q first.0 first.1 in
    let below = below_queues now.state.work e q is.may in
    let some : offers now.state.work e ≡ [] → ⊥ = λ none. offers-some now e q first.0 first.1 below none in (
      λ entry may shown.
          let h = offered_of now e entry room some may in
          (h.queue, all h.queue entry h.below h.is shown, offer_tells now.state.work e h.queue entry h.is),
      λ queue i.
          let one = each queue i in (
            one.0,
            offered_is_allowed now e queue one.0 room (is_offer now.state.work e queue one.0 one.1),
            one.2,
            offer_tells now.state.work e queue one.0 one.1,
          ),
    )

-- ---- the queues that an engine may take from

-- the one that is kept is the only one so far
pub choice_more : (w : Work) (e n : ℕ) (first new : Option ℕ)
    → ((q : ℕ) → q < n → qualifies w e q ≡ true → first ≡ Some q)
    → ((qualifies w e n ≡ false) × (new ≡ first)) ⊎ ((first ≡ None) × (new ≡ Some n))
    → (q : ℕ) → q < n + 1 → qualifies w e q ≡ true → new ≡ Some q
choice_more w e n first new before here q below may = at (q == n) refl
  where
    last : q ≡ n → new ≡ Some q
    last same = elim here [
      | inl unfit ↦ not-both (qualifies w e n) (subst (λ k. qualifies w e k ≡ true) same may) unfit.0
      | inr kept ↦ kept.1 ∙ ap (λ k. Some k) (sym same)
    ]

    earlier : q < n → new ≡ Some q
    earlier less = elim here [
      | inl unfit ↦ unfit.1 ∙ before q less may
      | inr kept ↦ let none : None ≡ Some q = sym kept.0 ∙ before q less may in absurd cc
    ]

    at : (b : Bool) → (q == n) ≡ b → new ≡ Some q
    at true same = last (eqb-true q n same)
    at false other = earlier (omega (arith, below, eqb-false q n other))

pub same_choice : (w : Work) (e n : ℕ) (first : Option ℕ) → ((q : ℕ) → q < n → qualifies w e q ≡ true → first ≡ Some q)
    → (q p : ℕ) → q < n → p < n → qualifies w e q ≡ true → qualifies w e p ≡ true → q ≡ p
same_choice w e n first all q p below under may can = same_Some q p (sym (all q below may) ∙ all p under can)
