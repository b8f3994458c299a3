use Rattle.dsa_shared_rows.proofs.workers.engines_run.Goals as goal
use Rattle.std.proofs.Common.{◌≡◌, ◌<◌, List, [], ◌∷◌, Option, Some, None, arith, length, lit≤, refl, slice_index_or, subst}
use Rattle.std.specs.Prelude.{Bool, option_map, take, true, false}
use Rattle.dsa_book.specs.{declared.event.Step.{Step}, Machine.{is_stored, stored_steps}}
use Rattle.dsa_book.specs.declared.event.Event.{Event, TheVariants.{Dispatch, Fetch}}
use Rattle.dsa_book.specs.declared.answer.DispatchAnswer.TheVariants.{Taken, Full}
use Rattle.dsa_book.specs.declared.answer.Reply.{Reply, TheVariants.{Dispatch}}
use Rattle.dsa_workers.specs.Calls.{calls_of, engine_event, found_full, tickets_of}
use Rattle.dsa_workers.proofs.Turns.{turns_none, turns_more, turns_full, turns_out}
use Rattle.dsa_shared_rows.proofs.ByKind.{answered_full, answered_wide}
use Rattle.dsa_shared_rows.specs.Worked.{asked_first, fetch_of_engine, member_fetched, member_script, seat_of}
use Rattle.dsa_shared_rows.specs.Worked.{taken_of_client, ticket_named_so, wide_device, wide_with_entry}

-- where there is no turn, none found the history full
no_turns : (turns : List (Option Step)) → length turns ≡ 0 → 0 < found_full (calls_of turns) → ⊥
no_turns [] none full = omega (arith, full)
no_turns (turn ∷ turns) none full = omega (arith, none)

-- a step that is a submission is no dispatch that was stored
kept : (event : Event) (reply : Reply) (stored : Bool) → is_stored reply ≡ stored
    → event ≡ Dispatch 3 → taken_of_client 0 ∷ [] ≡ stored_steps (record { event = event; reply = reply } ∷ []) → ⊥
kept event reply true stored is same = grind (arith, stored, is, same)
kept event reply false stored is same = grind (arith, stored, is, same)

-- where the second step alone is kept, it is not the one that found the history full
second_kept : (first second : Step) (kept first_kept : Bool) → is_stored second.reply ≡ kept
    → is_stored first.reply ≡ first_kept → first.event ≡ Dispatch 3
    → member_fetched 3 ∷ [] ≡ stored_steps (first ∷ second ∷ []) → second ≡ member_fetched 3
second_kept first second kept true stored first_stored is same = absurd (grind (arith, first_stored, is, same))
second_kept first second false false stored first_stored is same = absurd (grind (arith, stored, first_stored, same))
second_kept first second true false stored first_stored is same = grind (arith, stored, first_stored, same)

none_full : (first second : Step) → second ≡ member_fetched 3 → found_full (first ∷ []) ≡ 0
    → 0 < found_full (first ∷ second ∷ []) → ⊥
none_full first second is none full =
    let last = subst (λ (step : Step). 0 < found_full (first ∷ step ∷ [])) is full in
    omega (arith, none, last)

after_full : (turns : List (Option Step)) → length turns ≡ 2
    → option_map (λ call. call.event) (slice_index_or turns 0 None) ≡ Some (Dispatch 3)
    → option_map (λ call. call.event) (slice_index_or turns 1 None) ≡ Some (Fetch 3 member_script.member)
    → member_fetched 3 ∷ [] ≡ stored_steps (calls_of turns) → found_full (calls_of (take 1 turns)) ≡ 0
    → 0 < found_full (calls_of turns) → ⊥
after_full [] two first second same none full = omega (arith, two)
after_full (turn ∷ []) two first second same none full = omega (arith, two)
after_full (None ∷ other ∷ []) two first second same none full = grind (arith, first)
after_full (Some call ∷ None ∷ []) two first second same none full = grind (arith, second)
after_full (Some call ∷ Some other ∷ []) two first second same none full = none_full call other
    (second_kept call other (is_stored other.reply) (is_stored call.reply) refl refl (grind (arith, first)) same)
    none full
after_full (a ∷ b ∷ other ∷ turns) two first second same none full = omega (arith, two)

-- what an engine calls in its second turn
second_event : (turns : List (Option Step)) → length turns ≡ 2
    → option_map (λ call. call.event) (slice_index_or turns 1 None)
    ≡ engine_event 3 member_script (length (take 1 turns)) (tickets_of (take 1 turns))
    → option_map (λ call. call.event) (slice_index_or turns 1 None) ≡ Some (Fetch 3 member_script.member)
second_event [] two is = absurd (omega (arith, two))
second_event (turn ∷ turns) two is = is

alone : (turns : List (Option Step)) → length turns ≡ 1
    → option_map (λ call. call.event) (slice_index_or turns 0 None) ≡ Some (Dispatch 3)
    → taken_of_client 0 ∷ [] ≡ stored_steps (calls_of turns) → ⊥
alone [] one first same = omega (arith, one)
alone (None ∷ []) one first same = grind (arith, first)
alone (Some call ∷ []) one first same = kept call.event call.reply (is_stored call.reply) refl (grind (arith, first)) same
alone (turn ∷ other ∷ turns) one first same = omega (arith, one)

pub returns-clause-out_of_turns : goal.returns-clause-out_of_turns
returns-clause-out_of_turns c =
    let seat = seat_of 3 (fetch_of_engine 3 ∷ []) in
    let answered = answered_wide 9 (fetch_of_engine 3 ∷ []) wide_with_entry
    (asked_first 3 (Taken (ticket_named_so 0) 6)) (lit≤ tt) (lit≤ tt) refl (lit≤ tt) refl in
    turns_out _ _ _ _ _ _ 1 _ (turns_more wide_device 9 member_script seat seat _ 0 []
    (Dispatch (Taken (ticket_named_so 0) 6)) (turns_none _ _ _ _ [] refl) refl answered refl refl) refl

pub returns-clause-full : goal.returns-clause-full
returns-clause-full c =
    turns_full wide_device 0 member_script 2 (seat_of 3 []) (seat_of 3 []) _ 0 [] (Dispatch Full)
    (turns_none _ _ _ _ [] refl) refl (answered_full (asked_first 3 Full) refl) refl refl (lit≤ tt)

pub returns-clause-scripted : goal.returns-clause-scripted
returns-clause-scripted c is = is.unscripted refl

pub returns-clause-turns_left : goal.returns-clause-turns_left
returns-clause-turns_left c is = omega (arith, is.out_of_turns refl)

pub returns-clause-no_turn : goal.returns-clause-no_turn
returns-clause-no_turn c is = no_turns is.turns is.count (is.full.0 refl)

pub returns-clause-after_full : goal.returns-clause-after_full
returns-clause-after_full c is = after_full is.turns is.count (is.in_order 0 None (omega (arith, is.count))).1
    (second_event is.turns is.count (is.in_order 1 None (omega (arith, is.count))).1)
    is.receipts (is.stops 1 None (omega (arith, is.count))) (is.full.0 refl)

pub returns-clause-not_its_step : goal.returns-clause-not_its_step
returns-clause-not_its_step c is = alone is.turns is.count (is.in_order 0 None (omega (arith, is.count))).1 is.receipts
