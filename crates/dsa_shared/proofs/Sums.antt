-- The receipts of all seats together are the history.
use Rattle.std.proofs.Common.{◌≡◌, ℕ, zero, suc, ◌+◌, ◌*◌, ◌<◌, ◌≤◌, List, [], ◌∷◌, Bool, true, false, cond, length}
use Rattle.std.proofs.Common.{eqb, ltb, inl, inr, Option, refl, sym, ap, ◌∙◌, subst, arith}
use Rattle.std.proofs.lemmas.List.{Sums.{sum_by-cons}, Elements.{All-head, All-tail}}
use Rattle.std.proofs.lemmas.Bool.{Decides.{nat_tests}, cases_lt}
use Rattle.std.specs.{Prelude.{filter, sum_by, All}, Option.{option_map_or}}
use Rattle.dsa_book.specs.declared.event.{Step.{Step}, Actor.{Actor, TheVariants.{Client, Engine, Admin}}}
use Rattle.dsa_book.specs.Totals.{steps_of_actor, actor_of, same_actor}
use Rattle.dsa_shared.specs.Seat.{SeatLog, client_of, engine_of_seat, number_of_seat, receipts_of}
use Rattle.dsa_shared.specs.Settle.{HasEach, AllMatch, IsComplete, Match, over_seats}

-- a sum by recursion
abbrev pub total : {X : Type 0} → (X → ℕ) → List X → ℕ
total f [] = 0
total f (x ∷ xs) = f x + total f xs

pub total_is : {X : Type 0} (f : X → ℕ) (xs : List X) → sum_by f xs ≡ total f xs
total_is f [] = refl
total_is f (x ∷ xs) = sum_by-cons f x xs ∙ ap (λ n. f x + n) (total_is f xs)

total_same : {X : Type 0} (f g : X → ℕ) → ((x : X) → f x ≡ g x) → (xs : List X) → total f xs ≡ total g xs
total_same f g same [] = refl
total_same f g same (x ∷ xs) = omega (arith, same x, total_same f g same xs)

total_add : {X : Type 0} (f g : X → ℕ) (xs : List X) → total (λ x. f x + g x) xs ≡ total f xs + total g xs
total_add f g [] = refl
total_add f g (x ∷ xs) = omega (arith, total_add f g xs)

total_zero : {X : Type 0} (f : X → ℕ) → ((x : X) → f x ≡ 0) → (xs : List X) → total f xs ≡ 0
total_zero f none [] = refl
total_zero f none (x ∷ xs) = omega (arith, none x, total_zero f none xs)

total_one : {X : Type 0} (xs : List X) → total (λ x. 1) xs ≡ length xs
total_one [] = refl
total_one (x ∷ xs) = omega (arith, total_one xs)

abbrev pub once : Bool → ℕ
once b = cond b 1 0

-- a filter weighs what passes
one_of : (f : Step → ℕ) (p : Step → Bool) (h : List Step) → total f (filter p h) ≡ total (λ x. f x * once (p x)) h
one_of f p [] = refl
one_of f p (x ∷ h) = go (p x) (one_of f p h) where
  go : (b : Bool) → total f (filter p h) ≡ total (λ y. f y * once (p y)) h
      → total f (cond b (x ∷ filter p h) (filter p h)) ≡ f x * once b + total (λ y. f y * once (p y)) h
  go true e = omega (arith, e)
  go false e = omega (arith, e)

-- over some seats, each step counts as often as a seat has its actor
many_of : {T : Type 0} (actor : T → Actor) (receipts : T → List Step) (f : Step → ℕ) (h : List Step) (seats : List T)
    → AllMatch actor receipts h seats
    → total (λ s. total f (receipts s)) seats
    ≡ total (λ x. f x * total (λ s. once (same_actor (actor_of x.event) (actor s))) seats) h
many_of actor receipts f h [] match = sym (total_zero _ (λ x. omega arith) h)
many_of actor receipts f h (s ∷ seats) match =
    let here = All-head (λ t. receipts t ≡ steps_of_actor h (actor t)) s seats match in
    let rest = many_of actor receipts f h seats (All-tail (λ t. receipts t ≡ steps_of_actor h (actor t)) s seats match)
    in
    let one = ap (total f) here ∙ one_of f (λ x. same_actor (actor_of x.event) (actor s)) h in
    let add = total_add (λ x. f x * once (same_actor (actor_of x.event) (actor s)))
    (λ x. f x * total (λ t. once (same_actor (actor_of x.event) (actor t))) seats) h in
    let both = total_same (λ x. f x * (once (same_actor (actor_of x.event) (actor s)) + total
    (λ t. once (same_actor (actor_of x.event) (actor t))) seats))
    (λ x. f x * once (same_actor (actor_of x.event) (actor s)) + f x * total
    (λ t. once (same_actor (actor_of x.event) (actor t))) seats) (λ x. omega arith) h in
    omega (arith, one, rest, add, both)

-- where no step counts twice, and all count as many as there are, each counts once
bounded : (m : Step → ℕ) → ((x : Step) → m x ≤ 1) → (h : List Step) → total m h ≤ length h
bounded m le [] = omega arith
bounded m le (x ∷ h) = omega (arith, le x, bounded m le h)

whole : (m f : Step → ℕ) → ((x : Step) → m x ≤ 1) → (h : List Step) → total m h ≡ length h
    → total (λ x. f x * m x) h ≡ total f h
whole m f le [] e = refl
whole m f le (x ∷ h) e =
    let b = bounded m le h in
    let le' = le x in
    let once_here : m x ≡ 1 = omega arith in
    let rest = whole m f le h (omega arith) in
    omega (arith, ap (λ n. f x * n) once_here, rest)

none_at : (number : SeatLog → ℕ) (n k : ℕ) (seats : List SeatLog) → All (λ s. number s < n) seats → n ≤ k
    → total (λ s. once (eqb k (number s))) seats ≡ 0
none_at number n k [] below past = refl
none_at number n k (s ∷ seats) below past =
    let here = All-head (λ t. number t < n) s seats below in
    let rest = none_at number n k seats (All-tail (λ t. number t < n) s seats below) past in
    let no : once (eqb k (number s)) ≡ 0 = grind (arith, nat_tests) in
    omega (arith, no, rest)

at_most_one : (number : SeatLog → ℕ) (n k : ℕ) (seats : List SeatLog) → HasEach number n seats
    → total (λ s. once (eqb k (number s))) seats ≤ 1
at_most_one number n k seats each =
    elim (cases_lt k n) [
      | inl lt ↦ omega (arith, sym (total_is (λ s. once (eqb k (number s))) seats), each.1 k lt)
      | inr le ↦ omega (arith, none_at number n k seats each.0 le)
    ]

-- how many seats an actor has
abbrev holders : List SeatLog → List SeatLog → Actor → ℕ
holders clients engines a =
    total (λ s. once (same_actor a (client_of s))) clients + total (λ s. once (same_actor a (engine_of_seat s))) engines
    + once (same_actor a Admin)

holders_le : (clients engines : List SeatLog) (c e : ℕ) → HasEach number_of_seat c clients
    → HasEach number_of_seat e engines → (a : Actor) → holders clients engines a ≤ 1
holders_le clients engines c e each other (Client k) =
    omega (arith, at_most_one number_of_seat c k clients each, total_zero (λ s. 0) (λ s. refl) engines)
holders_le clients engines c e each other (Engine k) =
    omega (arith, at_most_one number_of_seat e k engines other, total_zero (λ s. 0) (λ s. refl) clients)
holders_le clients engines c e each other Admin =
    omega (arith, total_zero (λ s. 0) (λ s. refl) clients, total_zero (λ s. 0) (λ s. refl) engines)

-- the seats' sums, by recursion
seats_total : (f : Step → ℕ) (clients engines : List SeatLog) (admin : Option (List Step)) (h : List Step)
    → Match h clients engines admin
    → over_seats (sum_by f) clients engines admin ≡ total (λ x. f x * holders clients engines (actor_of x.event)) h
seats_total f clients engines admin h match =
    let one = many_of client_of receipts_of f h clients match.client_receipts in
    let two = many_of engine_of_seat receipts_of f h engines match.engine_receipts in
    let three = one_of f (λ x. same_actor (actor_of x.event) Admin) h in
    let m = λ (x : Step). total (λ s. once (same_actor (actor_of x.event) (client_of s))) clients in
    let n = λ (x : Step). total (λ s. once (same_actor (actor_of x.event) (engine_of_seat s))) engines in
    let o = λ (x : Step). once (same_actor (actor_of x.event) Admin) in
    let clients_is = total_is (λ s. sum_by f s.receipts) clients
    ∙ total_same _ _ (λ s. total_is f s.receipts) clients in
    let engines_is = total_is (λ s. sum_by f s.receipts) engines
    ∙ total_same _ _ (λ s. total_is f s.receipts) engines in
    let admin_is = ap (λ a. option_map_or (sum_by f) a 0) match.admin_receipts ∙ total_is f (steps_of_actor h Admin) in
    let add = total_add (λ x. f x * m x) (λ x. f x * n x) h in
    let all = total_add (λ x. f x * m x + f x * n x) (λ x. f x * o x) h in
    let spread = total_same (λ x. f x * (m x + n x + o x)) (λ x. f x * m x + f x * n x + f x * o x)
    (λ x. omega arith) h in
    omega (arith, one, two, three, clients_is, engines_is, admin_is, add, all, spread)

over_length : (clients engines : List SeatLog) (admin : Option (List Step))
    → over_seats length clients engines admin ≡ over_seats (sum_by (λ (x : Step). 1)) clients engines admin
over_length clients engines admin = ap (λ (f : List Step → ℕ). over_seats f clients engines admin)
    (λ i xs. (sym (total_one xs) ∙ sym (total_is (λ x. 1) xs)) i)

-- the sums over the seats are those of the history
pub seats_sum : (f : Step → ℕ) (clients engines : List SeatLog) (admin : Option (List Step)) (c e : ℕ) (h : List Step)
    → IsComplete clients engines admin c e → Match h clients engines admin
    → over_seats length clients engines admin ≡ length h
    → over_seats (sum_by f) clients engines admin ≡ sum_by f h
seats_sum f clients engines admin c e h complete match all =
    let m = λ (x : Step). holders clients engines (actor_of x.event) in
    let le = λ (x : Step). holders_le clients engines c e complete.each_client complete.each_engine
    (actor_of x.event) in
    let ones : total m h ≡ length h =
    total_same m (λ x. 1 * m x) (λ x. omega arith) h
    ∙ sym (seats_total (λ x. 1) clients engines admin h match) ∙ sym (over_length clients engines admin) ∙ all in
    seats_total f clients engines admin h match ∙ whole m f le h ones ∙ sym (total_is f h)

splits : (k n : ℕ) → once (ltb k (suc n)) ≡ once (ltb k n) + once (eqb n k)
splits k n = grind (arith, nat_tests)

all_below : (number : SeatLog → ℕ) (n : ℕ) (seats : List SeatLog) → All (λ s. number s < n) seats
    → total (λ s. 1) seats ≡ total (λ s. once (ltb (number s) n)) seats
all_below number n [] below = refl
all_below number n (s ∷ seats) below =
    let here = All-head (λ t. number t < n) s seats below in
    let rest = all_below number n seats (All-tail (λ t. number t < n) s seats below) in
    let yes : once (ltb (number s) n) ≡ 1 = grind (arith, nat_tests) in
    omega (arith, yes, rest)

below : (n : ℕ) (number : SeatLog → ℕ) (seats : List SeatLog)
    → ((k : ℕ) → k < n → total (λ s. once (eqb k (number s))) seats ≡ 1)
    → total (λ s. once (ltb (number s) n)) seats ≡ n
below zero number seats each = total_zero _ (λ s. grind (arith, nat_tests)) seats
below (suc n) number seats each =
    let rest = below n number seats (λ k lt. each k (omega arith)) in
    let here = each n (omega arith) in
    let split = total_same (λ s. once (ltb (number s) (suc n)))
    (λ s. once (ltb (number s) n) + once (eqb n (number s))) (λ s. splits (number s) n) seats in
    omega (arith, split, total_add (λ s. once (ltb (number s) n)) (λ s. once (eqb n (number s))) seats, rest, here)

-- there are as many seats as numbers
pub seats_len : (n : ℕ) (seats : List SeatLog) → HasEach number_of_seat n seats → length seats ≡ n
seats_len n seats each =
    sym (total_one seats) ∙ all_below number_of_seat n seats each.0
    ∙ below n number_of_seat seats (λ k lt. sym (total_is (λ s. once (eqb k s.number)) seats) ∙ each.1 k lt)

pub complete_by : (clients engines : List SeatLog) (admin : Option (List Step)) (c c' e e' : ℕ) → c ≡ c'
    → e ≡ e' → IsComplete clients engines admin c e → IsComplete clients engines admin c' e'
complete_by clients engines admin c c' e e' same same' all =
    let P : ℕ → Type 0 = λ n. IsComplete clients engines admin n e in
    let Q : ℕ → Type 0 = λ n. IsComplete clients engines admin c' n in
    subst Q same' (subst P same all)
