-- The turns of an engine's worker, some of which have no call.
use Rattle.std.proofs.Common.{◌≡◌, ℕ, ◌+◌, ◌<◌, ◌≤◌, List, [], ◌∷◌, ◌++◌, true, false, cond, length, refl, sym, ap}
use Rattle.std.proofs.Common.{subst, ◌∙◌, append-nil, arith}
use Rattle.std.proofs.lemmas.List.{length-append, Elements.{filter_map-append}, Sums.{fold-append}}
use Rattle.std.specs.{Prelude.{Option, Some, None, IfSome, is_some, fold}, Option.{option_map, option_map_or}}
use Rattle.dsa_regs.specs.declared.Caps.{Caps}
use Rattle.dsa_book.specs.declared.{answer.{Reply.{Reply}, Ticket.{Ticket}}, event.{Event.{Event}, Step.{Step}}}
use Rattle.dsa_book.specs.Machine.{history_after, stored_steps}
use Rattle.dsa_shared.specs.Seat.{SeatLog}
use Rattle.dsa_workers.specs.declared.scripts.EngineScript.{EngineScript}
use Rattle.dsa_workers.specs.declared.scripts.WorkerEnd.TheVariants.{TurnsOut, HistoryFull}
use Rattle.dsa_workers.specs.Calls.{InOrder, IsCallAnswered, is_history_full, found_full, tickets_after, calls_of}
use Rattle.dsa_workers.specs.Calls.{tickets_of}
use Rattle.dsa_workers.specs.Calls.{engine_event, call_of, after_turn, NextTurn}
use Rattle.dsa_workers.specs.Workers.{Grows, RunsEngine}
use Rattle.dsa_workers.proofs.Calls.{in_order_none, in_order_more, recorded_more, found_more, count_of, grows_by}

-- what an engine's worker did so far, in these turns
pub record Turns (caps : Caps) (capacity : ℕ) (script : EngineScript) (old new : SeatLog)
    (turns : List (Option Step)) : Type 0 where
  pub number : new.number ≡ old.number
  pub receipts : new.receipts ≡ old.receipts ++ stored_steps (calls_of turns)
  pub in_order : InOrder (NextTurn caps capacity old script) turns
  pub stops : InOrder (λ before turn. found_full (calls_of before) ≡ 0) turns

-- with these tickets left, and no call that found the history full
pub record TurnsSoFar (caps : Caps) (capacity : ℕ) (script : EngineScript) (old new : SeatLog) (turn : ℕ)
    (tickets : List Ticket) : Type 0 where
  pub turns : List (Option Step)
  pub did : Turns caps capacity script old new turns
  pub count : length turns ≡ turn
  pub left : tickets_of turns ≡ tickets
  pub room : found_full (calls_of turns) ≡ 0

pub turns_none : (caps : Caps) (capacity : ℕ) (script : EngineScript) (old : SeatLog) (tickets : List Ticket)
    → tickets ≡ []
    → TurnsSoFar caps capacity script old old 0 tickets
turns_none caps capacity script old tickets none = record {
  turns = [];
  did = record {
    number = refl;
    receipts = sym (append-nil old.receipts);
    in_order = in_order_none (NextTurn caps capacity old script);
    stops = in_order_none (λ before turn. found_full (calls_of before) ≡ 0);
  };
  count = refl;
  left = sym none;
  room = refl;
}

-- ---- one more turn

calls_more : (turns : List (Option Step)) (turn : Option Step)
    → calls_of (turns ++ turn ∷ []) ≡ calls_of turns ++ calls_of (turn ∷ [])
calls_more turns turn = filter_map-append (λ (t : Option Step). t) turns (turn ∷ [])

-- the receipts after one more turn
receipts_more : (old : List Step) (mid : SeatLog) (turns : List (Option Step)) (turn : Option Step)
    → mid.receipts ≡ old ++ stored_steps (calls_of turns)
    → (after_turn mid turn).receipts ≡ old ++ stored_steps (calls_of (turns ++ turn ∷ []))
receipts_more old mid turns None is =
    is ∙ ap (λ (z : List Step). old ++ stored_steps z) (sym (append-nil (calls_of turns)) ∙ sym (calls_more turns None))
receipts_more old mid turns (Some call) is =
    ap (λ (z : List Step). history_after z call) is ∙ recorded_more old (calls_of turns) call
    ∙ ap (λ (z : List Step). old ++ stored_steps z) (sym (calls_more turns (Some call)))

same_number : (mid : SeatLog) (turn : Option Step) → (after_turn mid turn).number ≡ mid.number
same_number mid None = refl
same_number mid (Some call) = refl

event_back : (event : Option Event) (reply : Option Reply) → is_some reply ≡ is_some event
    → option_map (λ (c : Step). c.event) (call_of event reply) ≡ event
event_back None None is = refl
event_back None (Some reply) is = absurd cc
event_back (Some event) None is = absurd cc
event_back (Some event) (Some reply) is = refl

-- a turn whose call, if it has one, was answered to a seat with these receipts
answered_turn : (caps : Caps) (capacity : ℕ) (old mid : List Step) (turns : List (Option Step)) (turn : Option Step)
    → mid ≡ old ++ stored_steps (calls_of turns) → IfSome turn (IsCallAnswered caps capacity mid)
    → IfSome turn (IsCallAnswered caps capacity (old ++ stored_steps (calls_of turns)))
answered_turn caps capacity old mid turns turn is answer =
    subst (λ (receipts : List Step). IfSome turn (IsCallAnswered caps capacity receipts)) is answer

turn_more : (caps : Caps) (capacity : ℕ) (script : EngineScript) (old mid new : SeatLog) (turn : ℕ)
    (tickets : List Ticket) (reply : Option Reply)
    → (so : TurnsSoFar caps capacity script old mid turn tickets)
    → is_some reply ≡ is_some (engine_event mid.number script turn tickets)
    → IfSome (call_of (engine_event mid.number script turn tickets) reply) (IsCallAnswered caps capacity mid.receipts)
    → new ≡ after_turn mid (call_of (engine_event mid.number script turn tickets) reply)
    → Turns caps capacity script old new (so.turns ++ call_of (engine_event mid.number script turn tickets) reply ∷ [])
turn_more caps capacity script old mid new turn tickets reply so called answer is =
    let event = engine_event mid.number script turn tickets in
    let one = call_of event reply in
    let here : event ≡ engine_event old.number script (length so.turns) (tickets_of so.turns) =
    ap (λ n. engine_event n script turn tickets) so.did.number
    ∙ ap (λ n. engine_event old.number script n tickets) (sym so.count)
    ∙ ap (λ (ts : List Ticket). engine_event old.number script (length so.turns) ts) (sym so.left) in
    record {
      number = ap (λ (s : SeatLog). s.number) is ∙ same_number mid one ∙ so.did.number;
      receipts = ap (λ (s : SeatLog). s.receipts) is ∙ receipts_more old.receipts mid so.turns one so.did.receipts;
      in_order = in_order_more (NextTurn caps capacity old script) so.turns one so.did.in_order (
        answered_turn caps capacity old.receipts mid.receipts so.turns one so.did.receipts answer,
        event_back event reply called ∙ here,
      );
      stops = in_order_more (λ before t. found_full (calls_of before) ≡ 0) so.turns one so.did.stops so.room;
    }

-- ---- what a reply leaves

tickets_more : (turns : List (Option Step)) (turn : Option Step)
    → tickets_of (turns ++ turn ∷ []) ≡ option_map_or
    (λ c. tickets_after (tickets_of turns) c.reply) turn (tickets_of turns)
tickets_more turns None = ap (fold (λ (ts : List Ticket) (c : Step). tickets_after ts c.reply) [])
    (calls_more turns None ∙ append-nil (calls_of turns))
tickets_more turns (Some call) =
    ap (fold (λ (ts : List Ticket) (c : Step). tickets_after ts c.reply) []) (calls_more turns (Some call))
    ∙ fold-append (λ (ts : List Ticket) (c : Step). tickets_after ts c.reply) [] (calls_of turns) (call ∷ [])

full_more : (turns : List (Option Step)) (call : Step)
    → found_full (calls_of (turns ++ Some call ∷ []))
    ≡ found_full (calls_of turns) + cond {A = ℕ} (is_history_full call.reply) 1 0
full_more turns call = ap found_full (calls_more turns (Some call)) ∙ found_more (calls_of turns) call

calls-le : (turns : List (Option Step)) → length (calls_of turns) ≤ length turns
calls-le [] = omega arith
calls-le (None ∷ turns) = omega (arith, calls-le turns)
calls-le (Some call ∷ turns) = omega (arith, calls-le turns)

turns_grow : (old new : List Step) (turns : List (Option Step)) (n : ℕ) → new ≡ old ++ stored_steps (calls_of turns)
    → length turns ≡ n → Grows old new n
turns_grow old new turns n is count =
    let g = grows_by old new (calls_of turns) is in
    record { prefix = g.prefix; bound = omega (arith, g.bound, calls-le turns, count) }

-- a turn without a call
pub turns_quiet : (caps : Caps) (capacity : ℕ) (script : EngineScript) (old mid new : SeatLog) (turn : ℕ)
    (tickets : List Ticket)
    → TurnsSoFar caps capacity script old mid turn tickets
    → false ≡ is_some (engine_event mid.number script turn tickets)
    → IfSome (call_of (engine_event mid.number script turn tickets) None) (IsCallAnswered caps capacity mid.receipts)
    → new ≡ after_turn mid (call_of (engine_event mid.number script turn tickets) None)
    → TurnsSoFar caps capacity script old new (turn + 1) tickets
turns_quiet caps capacity script old mid new turn tickets so called answer is =
    go (engine_event mid.number script turn tickets)
    (turn_more caps capacity script old mid new turn tickets None so called answer is)
  where
    quiet : Turns caps capacity script old new (so.turns ++ None ∷ [])
        → TurnsSoFar caps capacity script old new (turn + 1) tickets
    quiet did = record {
      turns = so.turns ++ None ∷ [];
      did = did;
      count = omega (arith, length-append so.turns (None ∷ []), so.count);
      left = tickets_more so.turns None ∙ so.left;
      room = ap found_full (calls_more so.turns None ∙ append-nil (calls_of so.turns)) ∙ so.room;
    }

    go : (event : Option Event) → Turns caps capacity script old new (so.turns ++ call_of event None ∷ [])
        → TurnsSoFar caps capacity script old new (turn + 1) tickets
    go None did = quiet did
    go (Some event) did = quiet did

-- the call of a turn that has one
called_by : (event : Option Event) (reply : Reply) → is_some (Some reply) ≡ is_some event
    → (call : Step) × (call_of event (Some reply) ≡ Some call) × (call.reply ≡ reply)
called_by None reply is = absurd cc
called_by (Some event) reply is = (record { event = event; reply = reply }, refl, refl)

-- a turn with a call that left room
pub turns_more : (caps : Caps) (capacity : ℕ) (script : EngineScript) (old mid new : SeatLog) (turn : ℕ)
    (tickets : List Ticket) (reply : Reply)
    → TurnsSoFar caps capacity script old mid turn tickets
    → is_some (Some reply) ≡ is_some (engine_event mid.number script turn tickets)
    → IfSome (call_of (engine_event mid.number script turn tickets) (Some reply))
    (IsCallAnswered caps capacity mid.receipts)
    → new ≡ after_turn mid (call_of (engine_event mid.number script turn tickets) (Some reply))
    → is_history_full reply ≡ false → TurnsSoFar caps capacity script old new (turn + 1) (tickets_after tickets reply)
turns_more caps capacity script old mid new turn tickets reply so called answer is room =
    let (call, was, said) = called_by (engine_event mid.number script turn tickets) reply called in
    let none : cond {A = ℕ} (is_history_full call.reply) 1 0 ≡ 0 =
    count_of (is_history_full call.reply) false (ap is_history_full said ∙ room) in
    record {
      turns = so.turns ++ Some call ∷ [];
      did = subst (λ (t : Option Step). Turns caps capacity script old new (so.turns ++ t ∷ [])) was
          (turn_more caps capacity script old mid new turn tickets (Some reply) so called answer is);
      count = omega (arith, length-append so.turns (Some call ∷ []), so.count);
      left = tickets_more so.turns (Some call) ∙ ap (λ (ts : List Ticket). tickets_after ts call.reply) so.left
          ∙ ap (tickets_after tickets) said;
      room = omega (arith, full_more so.turns call, so.room, none);
    }

-- a turn with a call that found the history full
pub turns_full : (caps : Caps) (capacity : ℕ) (script : EngineScript) (limit : ℕ) (old mid new : SeatLog) (turn : ℕ)
    (tickets : List Ticket)
    (reply : Reply) → TurnsSoFar caps capacity script old mid turn tickets
    → is_some (Some reply) ≡ is_some (engine_event mid.number script turn tickets)
    → IfSome (call_of (engine_event mid.number script turn tickets) (Some reply))
    (IsCallAnswered caps capacity mid.receipts)
    → new ≡ after_turn mid (call_of (engine_event mid.number script turn tickets) (Some reply))
    → is_history_full reply ≡ true → turn < limit
    → RunsEngine caps capacity script limit old new (record { turns = turn + 1; ended = HistoryFull })
turns_full caps capacity script limit old mid new turn tickets reply so called answer is full within =
    let (call, was, said) = called_by (engine_event mid.number script turn tickets) reply called in
    let one : cond {A = ℕ} (is_history_full call.reply) 1 0 ≡ 1 =
    count_of (is_history_full call.reply) true (ap is_history_full said ∙ full) in
    let did = subst (λ (t : Option Step). Turns caps capacity script old new (so.turns ++ t ∷ [])) was
    (turn_more caps capacity script old mid new turn tickets (Some reply) so called answer is) in
    let count : length (so.turns ++ Some call ∷ []) ≡ turn + 1 =
    omega (arith, length-append so.turns (Some call ∷ []), so.count) in
    record {
      turns = so.turns ++ Some call ∷ [];
      number = did.number;
      receipts = did.receipts;
      in_order = did.in_order;
      stops = did.stops;
      count = count;
      within = omega arith;
      out_of_turns = λ e. absurd cc;
      full = ((λ e. omega (arith, full_more so.turns call, so.room, one)), (λ e. refl));
      unscripted = λ e. absurd cc;
      grows = turns_grow old.receipts new.receipts (so.turns ++ Some call ∷ []) (turn + 1) did.receipts count;
    }

-- no turn is left
pub turns_out : (caps : Caps) (capacity : ℕ) (script : EngineScript) (limit : ℕ) (old new : SeatLog) (turn : ℕ)
    (tickets : List Ticket)
    → TurnsSoFar caps capacity script old new turn tickets → turn ≡ limit
    → RunsEngine caps capacity script limit old new (record { turns = limit; ended = TurnsOut })
turns_out caps capacity script limit old new turn tickets so had = record {
  turns = so.turns;
  number = so.did.number;
  receipts = so.did.receipts;
  in_order = so.did.in_order;
  stops = so.did.stops;
  count = so.count ∙ had;
  within = omega arith;
  out_of_turns = λ e. refl;
  full = ((λ e. absurd cc), (λ e. absurd (omega (arith, so.room, e))));
  unscripted = λ e. absurd cc;
  grows = turns_grow old.receipts new.receipts so.turns limit so.did.receipts (so.count ∙ had);
}
