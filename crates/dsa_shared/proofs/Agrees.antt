-- One walk over a history, with a place in the receipts of each seat.
use Rattle.std.proofs.Common.{◌≡◌, ℕ, ◌+◌, ◌<◌, ◌≤◌, List, [], ◌∷◌, ◌++◌, true, false, cond, eqb, length, take}
use Rattle.std.proofs.Common.{set, replicate, get_or, Some, HoldsAt, inl, inr, sym, ap, ◌∙◌, subst, arith}
use Rattle.std.proofs.lemmas.List.{take_more, take_all, append-nil, get_or-replicate, get_or-set_same, get_or-set_other}
use Rattle.std.proofs.lemmas.List.Elements.{filter-append}
use Rattle.std.proofs.lemmas.Option.{slice_get_within, get_or_from_slice_get}
use Rattle.std.proofs.lemmas.Bool.{cases_eq, eq-eqb, ne_eqb}
use Rattle.std.specs.Prelude.{slice_get}
use Rattle.dsa_book.specs.{declared.event.{Step.{Step}, Actor.{Actor}}, Totals.{steps_of_actor, actor_of, same_actor}}
use Rattle.dsa_shared.specs.Settle.{AgreeSoFar, AllMatch}

own_step : (h : List Step) (a : Actor) (x : Step) → same_actor (actor_of x.event) a ≡ true
    → steps_of_actor (h ++ x ∷ []) a ≡ steps_of_actor h a ++ x ∷ []
own_step h a x own = filter-append (λ y. same_actor (actor_of y.event) a) h (x ∷ [])
    ∙ ap (λ b. steps_of_actor h a ++ cond b (x ∷ []) []) own

-- a step of another actor changes nothing
pub other_step : (h : List Step) (a : Actor) (x : Step) → same_actor (actor_of x.event) a ≡ false
    → steps_of_actor (h ++ x ∷ []) a ≡ steps_of_actor h a
other_step h a x other = filter-append (λ y. same_actor (actor_of y.event) a) h (x ∷ [])
    ∙ ap (λ b. steps_of_actor h a ++ cond b (x ∷ []) []) other ∙ append-nil (steps_of_actor h a)

-- the actor's own step is the next receipt
pub next_receipt : (r h : List Step) (a : Actor) (n : ℕ) (x : Step) → same_actor (actor_of x.event) a ≡ true
    → slice_get r n ≡ Some x → take n r ≡ steps_of_actor h a → take (n + 1) r ≡ steps_of_actor (h ++ x ∷ []) a
next_receipt r h a n x own next same =
    take_more r n x (slice_get_within r n x next)
    ∙ ap (λ y. take n r ++ y ∷ []) (get_or_from_slice_get r n x x next)
    ∙ ap (λ front. front ++ x ∷ []) same ∙ sym (own_step h a x own)

pub at_first : {T : Type 0} (number : T → ℕ) (actor : T → Actor) (receipts : T → List Step) (seats : List T)
    → length seats ≤ 64 → ((k : ℕ) → k < length seats → HoldsAt (λ s. number s ≡ k) seats k)
    → AgreeSoFar number actor receipts [] seats (replicate 64 0)
at_first number actor receipts seats few order k lt d =
    (order k lt d, ap (λ n. take n (receipts (get_or seats k d))) (get_or-replicate 64 k 0 0 (omega (arith, few, lt))))

-- a step of no seat
pub none_moves : {T : Type 0} (number : T → ℕ) (actor : T → Actor) (receipts : T → List Step) (h : List Step)
    (seats : List T) (places : List ℕ) (x : Step) → ((s : T) → same_actor (actor_of x.event) (actor s) ≡ false)
    → AgreeSoFar number actor receipts h seats places → AgreeSoFar number actor receipts (h ++ x ∷ []) seats places
none_moves number actor receipts h seats places x others so_far k lt d =
    let s = get_or seats k d in
    let before = so_far k lt d in
    (before.0, before.1 ∙ sym (other_step h (actor s) x (others s)))

-- a step of the seat at place n, which is its next receipt
pub one_moves : {T : Type 0} (number : T → ℕ) (actor : T → Actor) (receipts : T → List Step) (h : List Step)
    (seats : List T) (places : List ℕ) (x : Step) (n at : ℕ)
    → ((s : T) → same_actor (actor_of x.event) (actor s) ≡ eqb n (number s))
    → n < length seats → n < length places → get_or places n 0 ≡ at
    → HoldsAt (λ s. slice_get (receipts s) at ≡ Some x) seats n
    → AgreeSoFar number actor receipts h seats places
    → AgreeSoFar number actor receipts (h ++ x ∷ []) seats (set places n (at + 1))
one_moves {T} number actor receipts h seats places x n at whose in_seats in_places here next so_far k lt d =
    elim (cases_eq k n) [
      | inl same ↦
          let s = get_or seats n d in
          let before = so_far n in_seats d in
          let own : same_actor (actor_of x.event) (actor s) ≡ true = whose s ∙ eq-eqb n (number s) (sym before.0) in
          let place : get_or (set places n (at + 1)) n 0 ≡ at + 1 = get_or-set_same places n (at + 1) 0 in_places in
          let met = ap (λ m. take m (receipts s)) (sym here) ∙ before.1 in
          let moved = ap (λ m. take m (receipts s)) place
          ∙ next_receipt (receipts s) h (actor s) at x own (next d) met in
          let P : ℕ → Type 0 = λ j. (number (get_or seats j d) ≡ j)
          × (take (get_or (set places n (at + 1)) j 0) (receipts (get_or seats j d))
          ≡ steps_of_actor (h ++ x ∷ []) (actor (get_or seats j d))) in
          subst P (sym same) (before.0, moved)
      | inr differs ↦
          let s = get_or seats k d in
          let before = so_far k lt d in
          let other : same_actor (actor_of x.event) (actor s) ≡ false =
          whose s ∙ ne_eqb n (number s) (λ e. differs (sym (e ∙ before.0))) in
          let place : get_or (set places n (at + 1)) k 0 ≡ get_or places k 0 =
          get_or-set_other places n k (at + 1) 0 differs in (
            before.0,
            ap (λ m. take m (receipts s)) place ∙ before.1 ∙ sym (other_step h (actor s) x other),
          )
    ]

pub at_end : {T : Type 0} (number : T → ℕ) (actor : T → Actor) (receipts : T → List Step) (h : List Step)
    (seats : List T) (places : List ℕ)
    → ((k : ℕ) → k < length seats → HoldsAt (λ s. get_or places k 0 ≡ length (receipts s)) seats k)
    → AgreeSoFar number actor receipts h seats places → AllMatch actor receipts h seats
at_end number actor receipts h seats places ended so_far k d lt =
    let r = receipts (get_or seats k d) in
    sym (take_all (length r) r (omega arith)) ∙ ap (λ n. take n r) (sym (ended k lt d)) ∙ (so_far k lt d).1
