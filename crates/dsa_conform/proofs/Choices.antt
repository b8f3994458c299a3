-- The answers to a dispatch: one for each queue that qualifies.
use Rattle.std.proofs.Common.{◌≡◌, ◌⊎◌, inl, inr, ◌<◌, ◌+◌, ◌==◌, ℕ, zero, suc, Bool, true, false, List, [], ◌∷◌, ◌++◌}
use Rattle.std.proofs.Common.{Option, Some, None, option_map, Result, Ok, Err, refl}
use Rattle.std.proofs.Common.{sym, ap, subst, length, map, filter_map, ◌∙◌, arith, cond}
use Rattle.std.proofs.Common.{append-nil, add-one}
use Rattle.std.proofs.lemmas.Bool.{and_parts, ltb-true, not-true, eqb-true, eqb-false}
use Rattle.std.proofs.lemmas.{Option.{same_Some}, List.{length-map}}
use Rattle.std.proofs.lemmas.List.Elements.{All-nil, All-cons, All-head, All-tail, All-append, All-push, All-contains}
use Rattle.std.proofs.lemmas.List.Elements.{Contains-append_left, Contains-append_right, Contains-push}
use Rattle.std.proofs.lemmas.List.Elements.{filter_map-append}
use Rattle.std.proofs.Math.ListN.{get_or-map}
use Rattle.std.specs.{Prelude.{All, Contains}, List.{list_any}}
use Rattle.dsa_base.specs.{Lists.{In}, Numbers.{numbers_below}, Rows.{passes}}
use Rattle.dsa_base.proofs.NumberLemmas.{numbers_below-miss}
use Rattle.dsa_base.proofs.Tables.{not-both}
use Rattle.dsa_store.specs.Content.{HeldEntry}
use Rattle.dsa_book.specs.declared.answer.{DispatchAnswer.TheVariants.{Taken, Idle}}
use Rattle.dsa_book.specs.declared.answer.Reply.{Reply}
use Rattle.dsa_book.specs.declared.answer.Reply.TheVariants.{Dispatch}
use Rattle.dsa_book.specs.declared.event.{Event.{Event, TheVariants.{Dispatch}}}
use Rattle.dsa_book.specs.Choice.{Choice, choice_of, nothing, in_cell, from_queue}
use Rattle.dsa_book.specs.Machine.{may_choose, next, reply_of}
use Rattle.dsa_book.specs.State.{Work, State, ticket_of_entry}
use Rattle.dsa_book.specs.Work.{qualifies, may_take, front_of, dispatch_of}
use Rattle.dsa_book.proofs.Nexts.{next-is, next-of, next-each}
use Rattle.dsa_device.{specs.Running.{Running, running_after, after_answer}, proofs.Steps.{answered_by_cases}}
use Rattle.dsa_scenario.specs.declared.actions.BadWord.{BadWord}
use Rattle.dsa_scenario.specs.declared.run.Record.{Record, TheVariants.{Stepped, Refused}}
use Rattle.dsa_scenario.specs.Lines.{record_text}
use Rattle.dsa_conform.specs.Allowed.{IsAllowed, AreAllowed, IsAscending, HasOneAnswer, IsNoDispatch}
use Rattle.dsa_conform.specs.Allowed.{queue_taken, taken_from, offer, offers}
use Rattle.dsa_conform.specs.{Seen.{Seen, shows}, Ways.{queue_of_record}}
use Rattle.dsa_conform.proofs.SeenAlike.{stepped, NoneTaken, event_in, one_answer}

-- ---- what a function gives of the numbers below a bound

given-once : {X : Type 0} (f : ℕ → Option X) (k : ℕ) (x : X) → f k ≡ Some x → Contains (filter_map f (k ∷ [])) x
given-once f k x h = rw h (Contains-push [] x)

given-behind : {X : Type 0} (f : ℕ → Option X) (n k : ℕ) (x : X) (b : Bool) → (k == n) ≡ b → k < suc n → f k ≡ Some x
    → (k < n → Contains (filter_map f (numbers_below n)) x)
    → Contains (filter_map f (numbers_below n) ++ filter_map f (n ∷ [])) x
given-behind f n k x true same below h before =
    let last : f n ≡ Some x = subst (λ i. f i ≡ Some x) (eqb-true k n same) h in
    Contains-append_right (filter_map f (numbers_below n)) (filter_map f (n ∷ [])) x (given-once f n x last)
given-behind f n k x false other below h before =
    Contains-append_left (filter_map f (numbers_below n)) (filter_map f (n ∷ [])) x
    (before (omega (arith, below, eqb-false k n other)))

-- what it gives of one of them
pub given : {X : Type 0} (f : ℕ → Option X) (n k : ℕ) (x : X) → k < n → f k ≡ Some x
    → Contains (filter_map f (numbers_below n)) x
given f zero k x below h = absurd (omega (arith, below))
given f (suc n) k x below h =
    rw filter_map-append (given-behind f n k x (k == n) refl below h (λ further. given f n k x further h))

each-once : {X : Type 0} (P : X → Type 0) (f : ℕ → Option X) (n : ℕ) (o : Option X) → f n ≡ o
    → ((x : X) → f n ≡ Some x → P x) → All P (filter_map f (n ∷ []))
each-once P f n None h holds = rw h (All-nil P)
each-once P f n (Some x) h holds = rw h (All-push P [] x (All-nil P) (holds x h))

-- what holds of each that it gives of a number below the bound
pub each : {X : Type 0} (P : X → Type 0) (f : ℕ → Option X) (n : ℕ)
    → ((k : ℕ) (x : X) → k < n → f k ≡ Some x → P x) → All P (filter_map f (numbers_below n))
each P f zero holds = All-nil P
each P f (suc n) holds =
    rw filter_map-append (All-append P (filter_map f (numbers_below n)) (filter_map f (n ∷ []))
    (each P f n (λ k x below h. holds k x (omega (arith, below)) h))
    (each-once P f n (f n) refl (λ x h. holds n x (omega arith) h)))

-- where it gives nothing of any
none : {X : Type 0} (f : ℕ → Option X) (n : ℕ) → ((k : ℕ) → k < n → f k ≡ None) → filter_map f (numbers_below n) ≡ []
none f zero h = refl
none f (suc n) h = rw (filter_map-append, none f n (λ k below. h k (omega (arith, below))), h n (omega arith)) refl

-- what it gives of those below, and of one more
pub given-more : {X : Type 0} (f : ℕ → Option X) (n : ℕ)
    → filter_map f (numbers_below (n + 1)) ≡ filter_map f (numbers_below n) ++ filter_map f (n ∷ [])
given-more f n = rw (add-one, filter_map-append) refl

-- ---- the offers

-- what the machine makes of a front that is taken
offered-next : (s : State) (e q : ℕ) (front : HeldEntry) → qualifies s.work e q ≡ true → front_of s.work q ≡ Some front
    → (after : State) × (next s (Dispatch e) (Dispatch (Taken (ticket_of_entry front) q)) ≡ Some after)
offered-next s e q front may is =
    let made = reply_of s (Dispatch e) (from_queue q) in
    let reply : made ≡ (Dispatch (Taken (ticket_of_entry front) q), made.1) = rw is refl in
    (made.1, next-of s made.1 (Dispatch e) (Dispatch (Taken (ticket_of_entry front) q)) may reply)

-- an offer is taken of a queue that qualifies
pub record IsOffer (w : Work) (e q : ℕ) (entry : Record) : Type 0 where
  pub front : HeldEntry
  pub may : qualifies w e q ≡ true
  pub stands : front_of w q ≡ Some front
  pub is : entry ≡ taken_from e q (ticket_of_entry front)

pub is_offer : (w : Work) (e q : ℕ) (entry : Record) → offer w e q ≡ Some entry → IsOffer w e q entry
is_offer w e q entry h = at (qualifies w e q) refl (front_of w q) refl h
  where
    at : (b : Bool) → qualifies w e q ≡ b → (o : Option HeldEntry) → front_of w q ≡ o
        → cond b (option_map (λ front. taken_from e q (ticket_of_entry front)) o) None ≡ Some entry
        → IsOffer w e q entry
    at false unfit o is h = absurd cc
    at true may None is h = absurd cc
    at true may (Some front) is h =
        record {
          front = front;
          may = may;
          stands = is;
          is = sym (same_Some (taken_from e q (ticket_of_entry front))
              entry h);
        }

-- a device with room may answer so
pub offered_is_allowed : (now : Running) (e q : ℕ) (entry : Record) → (length now.history == now.capacity) ≡ false
    → IsOffer now.state.work e q entry → IsAllowed now (Ok (Dispatch e)) entry
offered_is_allowed now e q entry room h =
    let reply : Reply = Dispatch (Taken (ticket_of_entry h.front) q) in
    let goes = offered-next now.state e q h.front h.may h.stands in
    rw h.is (record {
      answers = refl;
      after = running_after now (Dispatch e) reply goes.0;
      leads = rw (room, goes.1) refl;
    })

-- what qualifies has a front
pub taken-offer : (w : Work) (e q : ℕ) (o : Option HeldEntry) → front_of w q ≡ o → qualifies w e q ≡ true
    → (entry : Record) × (offer w e q ≡ Some entry) × (stepped (Dispatch e) (Dispatch (dispatch_of w e q o).0) ≡ entry)
taken-offer w e q None is may =
    let front : passes (may_take w e) (front_of w q) ≡ true = (and_parts _ _ (and_parts _ _ may).1).1 in
    let bad : false ≡ true = sym (ap (passes (may_take w e)) is) ∙ front in absurd cc
taken-offer w e q (Some front) is may = (taken_from e q (ticket_of_entry front), rw (may, is) refl, refl)

-- the engine may take the front of a queue that qualifies
pub takes_from : (now : Running) (e q : ℕ) → (length now.history == now.capacity) ≡ false
    → qualifies now.state.work e q ≡ true
    → (entry : Record) × IsAllowed now (Ok (Dispatch e)) entry × (queue_of_record entry ≡ Some q)
takes_from now e q room may =
    let found = taken-offer now.state.work e q (front_of now.state.work q) refl may in
    let is = is_offer now.state.work e q found.0 found.1 in
    (found.0, offered_is_allowed now e q found.0 room is, ap queue_of_record is.is)

-- an offer tells its queue
pub offer_tells : (w : Work) (e q : ℕ) (entry : Record) → offer w e q ≡ Some entry → queue_of_record entry ≡ Some q
offer_tells w e q entry h = ap queue_of_record (is_offer w e q entry h).is

-- a queue that qualifies is one of the device's
pub below_queues : (w : Work) (e q : ℕ) → qualifies w e q ≡ true → q < w.setup.caps.queues
below_queues w e q may = ltb-true q w.setup.caps.queues (and_parts _ _ (and_parts _ _ may).0).1

-- what the machine answers is one of the offers, or there are none and it is idle
abbrev IsOffered : State → ℕ → Reply → Type 0
IsOffered s e reply = Contains (offers s.work e) (stepped (Dispatch e) reply)
    ⊎ ((offers s.work e ≡ []) × (reply ≡ Dispatch Idle))

pub is_offered : (s s' : State) (e : ℕ) (reply : Reply) → next s (Dispatch e) reply ≡ Some s' → IsOffered s e reply
is_offered s s' e reply h = next-each (λ r t. IsOffered s e r) s s' (Dispatch e) reply at h
  where
    at : (choice : Choice) → may_choose s (Dispatch e) choice ≡ true
        → choice_of (reply_of s (Dispatch e) choice).0 ≡ choice → IsOffered s e (reply_of s (Dispatch e) choice).0
    at (from_queue q) may same =
        let found = taken-offer s.work e q (front_of s.work q) refl may in
        inl (rw found.2 (given (offer s.work e) s.work.setup.caps.queues q found.0 (below_queues s.work e q may)
        found.1))
    at nothing may same =
        let empty : list_any (qualifies s.work e) (numbers_below s.work.setup.caps.queues) ≡ false = not-true _ may in
        inr (
          none (offer s.work e) s.work.setup.caps.queues
              (λ k below. rw (numbers_below-miss (qualifies s.work e) s.work.setup.caps.queues k empty below) refl),
          refl,
        )
    at (in_cell cell) may same = absurd cc

-- where there are no offers no entry is taken
pub contains-nothing : {X Y : Type 0} (xs : List X) (x : X) → xs ≡ [] → Contains xs x → Y
contains-nothing xs x h c = let c : Contains [] x = rw h at c in absurd (omega (arith, c.1))

pub none_offered : (now : Running) (e : ℕ) → offers now.state.work e ≡ [] → NoneTaken now (Dispatch e)
none_offered now e empty room t q s h = elim (is_offered now.state s e (Dispatch (Taken t q)) h) [
  | inl among ↦ contains-nothing (offers now.state.work e) (taken_from e q t) empty among
  | inr idle ↦ let other : Dispatch (Taken t q) ≡ Dispatch Idle = idle.1 in absurd cc
]

-- ---- what may be answered

-- of a device with room and with offers, each answer is one of them
pub allowed_is_offered : (now : Running) (e : ℕ) (entry : Record) → (length now.history == now.capacity) ≡ false
    → (offers now.state.work e ≡ [] → ⊥) → IsAllowed now (Ok (Dispatch e)) entry
    → Contains (offers now.state.work e) entry
allowed_is_offered now e (Refused fault) room some h = let other : Err fault ≡ Ok (Dispatch e) = h.answers in absurd cc
allowed_is_offered now e (Stepped x) room some h =
    let same : x.event ≡ Dispatch e = ap (event_in x.event) h.answers in
    let leads : after_answer now (Dispatch e) x.reply ≡ Some h.after =
    subst (λ event. after_answer now event x.reply ≡ Some h.after) same h.leads in
    subst (λ event. Contains (offers now.state.work e) (stepped event x.reply)) (sym same)
    (answered_by_cases (λ d. Contains (offers now.state.work e) (stepped (Dispatch e) x.reply)) now h.after (Dispatch e)
    x.reply leads
    (λ full is. not-both (length now.history == now.capacity) full room)
    (λ s free n. elim (is_offered now.state s e x.reply n) [
      | inl among ↦ among
      | inr idle ↦ absurd (some idle.0)
    ]))

-- the texts of a list have the text of each of it
text_among : (entries : List Record) (entry : Record) → Contains entries entry
    → Contains (map record_text entries) (record_text entry)
text_among entries entry h = (
  h.0,
  rw length-map h.1,
  get_or-map record_text entries h.0 entry ∙ ap record_text h.2,
)

-- one offer more stands behind those before
ascending-push : (xs : List Record) (x : Record) → IsAscending xs → All (λ y. queue_taken y < queue_taken x) xs
    → IsAscending (xs ++ x ∷ [])
ascending-push [] x h below = (All-nil (λ later. queue_taken x < queue_taken later), tt)
ascending-push (y ∷ ys) x h below = (
  All-push (λ later. queue_taken y < queue_taken later) ys x h.0
      (All-head (λ z. queue_taken z < queue_taken x) y ys below),
  ascending-push ys x h.1 (All-tail (λ z. queue_taken z < queue_taken x) y ys below),
)

ascending-behind : (w : Work) (e n : ℕ) (o : Option Record) → offer w e n ≡ o
    → IsAscending (filter_map (offer w e) (numbers_below n))
    → IsAscending (filter_map (offer w e) (numbers_below n) ++ filter_map (offer w e) (n ∷ []))
ascending-behind w e n None h before = rw (h, append-nil) before
ascending-behind w e n (Some x) h before =
    let last : queue_taken x ≡ n = ap queue_taken (is_offer w e n x h).is in
    rw h (ascending-push (filter_map (offer w e) (numbers_below n)) x before
    (each (λ y. queue_taken y < queue_taken x) (offer w e) n
    (λ k y below g. let here : queue_taken y ≡ k = ap queue_taken (is_offer w e k y g).is in rw (here, last) below)))

-- the offers of the first queues stand in order
ascending : (w : Work) (e n : ℕ) → IsAscending (filter_map (offer w e) (numbers_below n))
ascending w e zero = tt
ascending w e (suc n) = rw filter_map-append (ascending-behind w e n (offer w e n) refl (ascending w e n))

-- the offers are all that may be answered
pub all_offers : (now : Running) (e : ℕ) → (length now.history == now.capacity) ≡ false
    → (offers now.state.work e ≡ [] → ⊥) → AreAllowed now (Ok (Dispatch e)) (offers now.state.work e)
all_offers now e room some = record {
  each = each (IsAllowed now (Ok (Dispatch e))) (offer now.state.work e) now.state.work.setup.caps.queues
      (λ q entry below h. offered_is_allowed now e q entry room (is_offer now.state.work e q entry h));
  all = λ entry h. text_among (offers now.state.work e) entry (allowed_is_offered now e entry room some h);
  order = ascending now.state.work e now.state.work.setup.caps.queues;
}

-- where there is one answer, it is all that may be answered
pub only_answer : (now : Running) (asked : Result Event BadWord) (entry : Record) → HasOneAnswer now asked
    → IsAllowed now asked entry → AreAllowed now asked (entry ∷ [])
only_answer now asked entry one h = record {
  each = All-push (IsAllowed now asked) [] entry (All-nil (IsAllowed now asked)) h;
  all = λ other k. rw (one other entry k h).texts (Contains-push [] (record_text entry));
  order = (All-nil (λ later. queue_taken entry < queue_taken later), tt);
}

-- a list is empty or not
pub empty_list : {X : Type 0} (xs : List X) → (length xs == 0) ≡ true → xs ≡ []
empty_list [] h = refl
empty_list (x ∷ xs) h = absurd (omega (arith, eqb-true (length (x ∷ xs)) 0 h))

pub filled_list : {X : Type 0} (xs : List X) → (length xs == 0) ≡ false → xs ≡ [] → ⊥
filled_list xs h none = eqb-false (length xs) 0 h (ap length none)

-- ---- where there is one answer

-- a history without room has one
pub full_answer : (now : Running) (asked : Result Event BadWord) → (length now.history == now.capacity) ≡ true
    → HasOneAnswer now asked
full_answer now asked full =
    one_answer now asked (λ e is room t q s n. not-both (length now.history == now.capacity) full room)

-- an engine that is offered nothing has one
pub idle_answer : (now : Running) (e : ℕ) → offers now.state.work e ≡ [] → HasOneAnswer now (Ok (Dispatch e))
idle_answer now e empty =
    one_answer now (Ok (Dispatch e))
    (λ event is. subst (NoneTaken now) (ap (event_in (Dispatch e)) is) (none_offered now e empty))

abbrev pub is_dispatch : Reply → Bool
is_dispatch (Dispatch answer) = true
is_dispatch _ = false

-- no other event is answered as a dispatch is
pub answered_otherwise : (s : State) (e : Event) (choice : Choice) → IsNoDispatch (Ok e)
    → is_dispatch (reply_of s e choice).0 ≡ false
answered_otherwise s (Dispatch e) choice h = absurd h
answered_otherwise s _ choice h = refl

-- what is no dispatch has one answer
pub other_answer : (now : Running) (asked : Result Event BadWord) → IsNoDispatch asked → HasOneAnswer now asked
other_answer now asked h = one_answer now asked (λ e is room t q s n.
    let other : is_dispatch (reply_of now.state e (from_queue q)).0 ≡ false =
    answered_otherwise now.state e (from_queue q) (subst (λ a. IsNoDispatch a) is h) in
    let p = next-is now.state s e (Dispatch (Taken t q)) n in
    not-both (is_dispatch (reply_of now.state e (from_queue q)).0) (ap (λ (r : Reply × State). is_dispatch r.0)
    p.1) other)

-- no offer of the queues below shows what was seen, nor one of one more
pub none_more : (w : Work) (e n : ℕ) (seen : Seen)
    → ((q : ℕ) (entry : Record) → q < n → offer w e q ≡ Some entry → shows seen entry ≡ false)
    → ((entry : Record) → offer w e n ≡ Some entry → shows seen entry ≡ false)
    → (q : ℕ) (entry : Record) → q < n + 1 → offer w e q ≡ Some entry → shows seen entry ≡ false
none_more w e n seen before here q entry below h = at (q == n) refl
  where
    at : (b : Bool) → (q == n) ≡ b → shows seen entry ≡ false
    at true same = here entry (subst (λ k. offer w e k ≡ Some entry) (eqb-true q n same) h)
    at false other = before q entry (omega (arith, below, eqb-false q n other)) h

-- so none of the answers that may come does
pub none_shows : (now : Running) (e : ℕ) (seen : Seen) → (length now.history == now.capacity) ≡ false
    → (offers now.state.work e ≡ [] → ⊥)
    → ((q : ℕ) (entry : Record) → q < now.state.work.setup.caps.queues → offer now.state.work e q ≡ Some entry
    → shows seen entry ≡ false)
    → (entry : Record) → IsAllowed now (Ok (Dispatch e)) entry → shows seen entry ≡ false
none_shows now e seen room some fails entry h =
    All-contains (λ other. shows seen other ≡ false) (offers now.state.work e) entry
    (each (λ other. shows seen other ≡ false) (offer now.state.work e) now.state.work.setup.caps.queues
    (λ q other below g. fails q other below g))
    (allowed_is_offered now e entry room some h)

-- ---- one of a list

pub all_of : {X : Type 0} (P : X → Type 0) (xs : List X) → ((x : X) → In x xs → P x) → All P xs
all_of P [] h = All-nil P
all_of P (x ∷ xs) h = All-cons P x xs (h x (inl refl)) (all_of P xs (λ y i. h y (inr i)))

pub all_in : {X : Type 0} (P : X → Type 0) (xs : List X) (x : X) → All P xs → In x xs → P x
all_in P [] x all i = absurd i
all_in P (y ∷ ys) x all (inl same) = subst P same (All-head P y ys all)
all_in P (y ∷ ys) x all (inr i) = all_in P ys x (All-tail P y ys all) i

pub contains_in : {X : Type 0} (xs : List X) (x : X) → Contains xs x → In x xs
contains_in xs x c = All-contains (λ y. In y xs) xs x (all_of (λ y. In y xs) xs (λ y i. i)) c

pub in_map : {X Y : Type 0} (f : X → Y) (xs : List X) (y : Y) → In y (map f xs) → (x : X) × In x xs × (f x ≡ y)
in_map f [] y i = absurd i
in_map f (x ∷ xs) y (inl same) = (x, inl refl, same)
in_map f (x ∷ xs) y (inr i) = let r = in_map f xs y i in (r.0, inr r.1, r.2)

pub map_in : {X Y : Type 0} (f : X → Y) (xs : List X) (x : X) → In x xs → In (f x) (map f xs)
map_in f [] x i = absurd i
map_in f (y ∷ ys) x (inl same) = inl (ap f same)
map_in f (y ∷ ys) x (inr i) = inr (map_in f ys x i)

pub some_of : {X : Type 0} (xs : List X) → (xs ≡ [] → ⊥) → (x : X) × In x xs
some_of [] full = absurd (full refl)
some_of (x ∷ xs) full = (x, inl refl)
