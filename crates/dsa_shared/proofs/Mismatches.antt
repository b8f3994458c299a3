-- The first mismatch of complete seats has one position, and there is none where all match.
use Rattle.std.proofs.Common.{◌≡◌, ℕ, zero, suc, ◌<◌, ◌≤◌, List, [], ◌∷◌, Bool, true, length, take, get_or, eqb, inl}
use Rattle.std.proofs.Common.{inr, Option, Some, None, refl, sym, ap, ◌∙◌, subst, arith}
use Rattle.std.proofs.lemmas.{List.Elements.{All-contains}, Option.{slice_get-get_or, same_Some}}
use Rattle.std.proofs.lemmas.Bool.{cases_lt, Decides.{nat_tests}}
use Rattle.std.specs.{Prelude.{slice_get, Contains}, Option.{IsSomeAnd}}
use Rattle.dsa_book.specs.{declared.event.{Step.{Step}, Actor.{Actor, TheVariants.{Admin}}}, Totals.{steps_of_actor}}
use Rattle.dsa_shared.specs.Compare.{DiffersFirstAt}
use Rattle.dsa_shared.specs.Seat.{SeatLog, client_of, engine_of_seat, number_of_seat, receipts_of}
use Rattle.dsa_shared.specs.Settle.{HasEach, AllMatch, FirstMismatch, IsComplete, IsFirstMismatch}
use Rattle.dsa_shared.proofs.{Compares.{never_same}, Sums.{total, once, total_is}}

get_take : (xs : List Step) (i j : ℕ) → i < j → slice_get (take j xs) i ≡ slice_get xs i
get_take [] i zero lt = absurd (omega arith)
get_take [] i (suc j) lt = refl
get_take (x ∷ xs) i zero lt = absurd (omega arith)
get_take (x ∷ xs) zero (suc j) lt = refl
get_take (x ∷ xs) (suc i) (suc j) lt = get_take xs i j (omega arith)

-- what differs first at i agrees nowhere behind it
not_before : (xs ys : List Step) (i j : ℕ) → i < j → DiffersFirstAt xs ys i → DiffersFirstAt xs ys j → ⊥
not_before xs ys i j lt a b = a.1 (sym (get_take xs i j lt) ∙ ap (λ z. slice_get z i) b.0 ∙ get_take ys i j lt)

differs_once : (xs ys : List Step) (i j : ℕ) → DiffersFirstAt xs ys i → DiffersFirstAt xs ys j → i ≡ j
differs_once xs ys i j a b =
    elim (cases_lt i j) [
      | inl lt ↦ absurd (not_before xs ys i j lt a b)
      | inr le ↦ elim (cases_lt j i) [
        | inl lt ↦ absurd (not_before xs ys j i lt b a)
        | inr ge ↦ omega (arith, le, ge)
      ]
    ]

counts_one : {T : Type 0} (p : T → Bool) (xs : List T) (k : ℕ) (d : T) → k < length xs
    → p (get_or xs k d) ≡ true → 1 ≤ total (λ x. once (p x)) xs
counts_one p [] k d lt passes = absurd (omega arith)
counts_one p (x ∷ xs) zero d lt passes = let e = ap once passes in omega (arith, e)
counts_one p (x ∷ xs) (suc k) d lt passes = let e = counts_one p xs k d (omega arith) passes in omega (arith, e)

-- what passes once stands in one place
one_place : {T : Type 0} (p : T → Bool) (xs : List T) (k j : ℕ) (d e : T) → total (λ x. once (p x)) xs ≡ 1
    → k < length xs → p (get_or xs k d) ≡ true → j < length xs → p (get_or xs j e) ≡ true → k ≡ j
one_place p [] k j d e one lt passes lt' passes' = absurd (omega arith)
one_place p (x ∷ xs) zero zero d e one lt passes lt' passes' = refl
one_place p (x ∷ xs) zero (suc j) d e one lt passes lt' passes' =
    let here = ap once passes in
    let there = counts_one p xs j e (omega arith) passes' in
    absurd (omega (arith, here, there, one))
one_place p (x ∷ xs) (suc k) zero d e one lt passes lt' passes' =
    let here = ap once passes' in
    let there = counts_one p xs k d (omega arith) passes in
    absurd (omega (arith, here, there, one))
one_place p (x ∷ xs) (suc k) (suc j) d e one lt passes lt' passes' =
    let there = counts_one p xs k d (omega arith) passes in
    let rest : total (λ y. once (p y)) xs ≡ 1 = omega (arith, there, one) in
    ap suc (one_place p xs k j d e rest (omega arith) passes (omega arith) passes')

-- two seats of one number are one
one_seat : {T : Type 0} (number : T → ℕ) (n : ℕ) (seats : List T) → HasEach number n seats → (s t : T)
    → Contains seats s → Contains seats t → number s ≡ number t → s ≡ t
one_seat {T} number n seats each s t (k, lt, is) (j, lt', is') same =
    let below : number s < n = All-contains (λ u. number u < n) seats s each.0 (k, lt, is) in
    let one : total (λ u. once (eqb (number s) (number u))) seats ≡ 1 =
    sym (total_is (λ u. once (eqb (number s) (number u))) seats) ∙ each.1 (number s) below in
    let own : number (get_or seats k s) ≡ number s = ap number is in
    let other : number (get_or seats j t) ≡ number s = ap number is' ∙ sym same in
    let place = one_place (λ u. eqb (number s) (number u)) seats k j s t one lt (grind (arith, nat_tests)) lt'
    (grind (arith, nat_tests)) in
    let first : slice_get seats k ≡ Some s = slice_get-get_or seats k s lt ∙ ap Some is in
    let second : slice_get seats j ≡ Some t = slice_get-get_or seats j t lt' ∙ ap Some is' in
    same_Some s t (sym first ∙ ap (slice_get seats) place ∙ second)

first_once : {T : Type 0} (number : T → ℕ) (actor : T → Actor) (receipts : T
    → List Step) (h : List Step) (n : ℕ) (seats : List T) (i j : ℕ)
    → HasEach number n seats → FirstMismatch number actor receipts h seats i
    → FirstMismatch number actor receipts h seats j → i ≡ j
first_once {T} number actor receipts h n seats i j each (s, held, differs, before) (t, held', differs', before') =
    elim (cases_lt (number s) (number t)) [
      | inl lt ↦ absurd (never_same _ _ i differs
          (All-contains (λ u. number u < number t → receipts u ≡ steps_of_actor h (actor u)) seats s before' held lt))
      | inr le ↦ elim (cases_lt (number t) (number s)) [
        | inl lt ↦ absurd (never_same _ _ j differs'
            (All-contains (λ u. number u < number s → receipts u ≡ steps_of_actor h (actor u)) seats t before held' lt))
        | inr ge ↦
            let e : s ≡ t = one_seat number n seats each s t held held' (omega (arith, le, ge)) in
            let P : T → Type 0 = λ u. DiffersFirstAt (receipts u) (steps_of_actor h (actor u)) j in
            differs_once (receipts s) (steps_of_actor h (actor s)) i j differs (subst P (sym e) differs')
      ]
    ]

none_matching : {T : Type 0} (number : T → ℕ) (actor : T → Actor) (receipts : T
    → List Step) (h : List Step) (seats : List T) (i : ℕ)
    → AllMatch actor receipts h seats → FirstMismatch number actor receipts h seats i → ⊥
none_matching number actor receipts h seats i match (s, held, differs, before) =
    never_same _ _ i differs (All-contains (λ u. receipts u ≡ steps_of_actor h (actor u)) seats s match held)

admin_once : (h : List Step) (admin : Option (List Step)) (i j : ℕ)
    → IsSomeAnd admin (λ r. DiffersFirstAt r (steps_of_actor h Admin) i)
    → IsSomeAnd admin (λ r. DiffersFirstAt r (steps_of_actor h Admin) j) → i ≡ j
admin_once h (Some r) i j a b = differs_once r (steps_of_actor h Admin) i j a b
admin_once h None i j a b = absurd a

pub mismatch_once : (h : List Step) (clients engines : List SeatLog) (admin : Option (List Step)) (c e i j : ℕ)
    → IsComplete clients engines admin c e
    → IsFirstMismatch h clients engines admin i → IsFirstMismatch h clients engines admin j → i ≡ j
mismatch_once h clients engines admin c e i j all (inl a) (inl b) =
    first_once number_of_seat client_of receipts_of h c clients i j all.each_client a b
mismatch_once h clients engines admin c e i j all (inl a) (inr (inl b)) =
    absurd (none_matching number_of_seat client_of receipts_of h clients i b.0 a)
mismatch_once h clients engines admin c e i j all (inl a) (inr (inr b)) =
    absurd (none_matching number_of_seat client_of receipts_of h clients i b.0 a)
mismatch_once h clients engines admin c e i j all (inr (inl a)) (inl b) =
    absurd (none_matching number_of_seat client_of receipts_of h clients j a.0 b)
mismatch_once h clients engines admin c e i j all (inr (inl a)) (inr (inl b)) =
    first_once number_of_seat engine_of_seat receipts_of h e engines i j all.each_engine a.1 b.1
mismatch_once h clients engines admin c e i j all (inr (inl a)) (inr (inr b)) =
    absurd (none_matching number_of_seat engine_of_seat receipts_of h engines i b.1 a.1)
mismatch_once h clients engines admin c e i j all (inr (inr a)) (inl b) =
    absurd (none_matching number_of_seat client_of receipts_of h clients j a.0 b)
mismatch_once h clients engines admin c e i j all (inr (inr a)) (inr (inl b)) =
    absurd (none_matching number_of_seat engine_of_seat receipts_of h engines j a.1 b.1)
mismatch_once h clients engines admin c e i j all (inr (inr a)) (inr (inr b)) = admin_once h admin i j a.2 b.2
