use Rattle.dsa_cli.proofs.rows.totals_of_a_run.Goals as goal
use Rattle.dsa_book.specs.declared.answer.Reply.TheVariants as reply
use Rattle.dsa_book.specs.declared.event.Event.TheVariants as event
use Rattle.std.proofs.Common.{◌≡◌, ◌≤◌, ℕ, true, List, [], ◌∷◌, ◌++◌, length, refl, lit≤, arith}
use Rattle.std.specs.Prelude.{All, Option, Some, is_some, slice_index_or}
use Rattle.std.proofs.lemmas.List.Elements.{All-from_recursion}
use Rattle.dsa_store.specs.Content.{held_count}
use Rattle.dsa_book.specs.declared.answer.DispatchAnswer.TheVariants.{Taken}
use Rattle.dsa_book.specs.declared.answer.FetchAnswer.TheVariants.{NoBatch}
use Rattle.dsa_book.specs.declared.answer.StartAnswer.TheVariants.{Nothing}
use Rattle.dsa_book.specs.declared.answer.FinishAnswer.TheVariants.{Done}
use Rattle.dsa_book.specs.declared.event.{Actor.TheVariants.{Client, Engine}, Step.{Step}}
use Rattle.dsa_book.specs.{Machine.{is_legal}, Totals.{steps_of_actor, total_accepted}}
use Rattle.dsa_device.specs.Running.{after_answer}
use Rattle.dsa_shared.specs.Seat.{SeatLog, fresh}
use Rattle.dsa_scenario.specs.Worked.{record_ticket}
use Rattle.dsa_workers.specs.Calls.{InOrder, IsCallAnswered, NextSubmission, NextTurn, found_full}
use Rattle.dsa_workers.specs.Calls.{calls_of}
use Rattle.dsa_workers.specs.declared.scripts.ClientStep.{ClientStep}
use Rattle.dsa_workers.specs.declared.scripts.WorkerEnd.TheVariants.{ScriptDone, TurnsOut}
use Rattle.dsa_workers.proofs.Answered.{answered_after, device_of}
use Rattle.dsa_workers.proofs.Calls.{in_order_none, in_order_more}
use Rattle.dsa_cli.specs.Threads.{RanAsClient, RanAsEngine, Submits, caps_for, engine_script}
use Rattle.dsa_cli.specs.Threads.{setup_steps}
use Rattle.dsa_cli.specs.Threads.{submission_of}
use Rattle.dsa_cli.specs.Worked.{load, move_under, move_taken_in, three_moves, entry_worked_off}
use Rattle.dsa_cli.specs.Worked.{steps_of_three_moves}
use Rattle.dsa_cli.specs.Worked.{client_seats_after, engine_seats_after}
use Rattle.dsa_cli.proofs.FewNumbers.{below_one, below_two}

-- ---- what was answered

-- a call that may come after this history
answered : (receipts history : List Step) (call : Step) → length history ≤ 20
    → is_legal (caps_for (load 1 2 3 4)) history ≡ true → length receipts ≤ length history
    → is_some (after_answer (device_of (caps_for (load 1 2 3 4)) 20 history) call.event call.reply) ≡ true
    → IsCallAnswered (caps_for (load 1 2 3 4)) 20 receipts call
answered receipts history call within legal seen may =
    answered_after (caps_for (load 1 2 3 4)) 20 receipts history call.event call.reply refl (lit≤ tt) within legal seen
    may

-- ---- the client

abbrev first : Step
first = move_taken_in 3 0

abbrev second : Step
second = move_taken_in 5 1

abbrev third : Step
third = move_taken_in 4 2

-- its moves, each by those before it
three : (next : List Step → Step → Type 0) → next [] first → next (first ∷ []) second
    → next (first ∷ second ∷ []) third → InOrder next three_moves
three next one two last =
    in_order_more next (first ∷ second ∷ []) third
    (in_order_more next (first ∷ []) second
    (in_order_more next [] first (in_order_none next) one) two) last

abbrev script : List ClientStep
script = move_under 1 ∷ move_under 1 ∷ move_under 1 ∷ []

submits : Submits 1 (move_under 1)
submits = record { queue = refl; portal = refl; kind = refl; bytes = refl }

client_ran : RanAsClient (caps_for (load 1 2 3 4)) 20 (load 1 2 3 4) 0 (record { number = 0; receipts = three_moves })
client_ran = (
  script,
  record { turns = 3; ended = ScriptDone },
  refl,
  All-from_recursion (Submits 1) script (submits, (submits, (submits, tt))),
  record {
    number = refl;
    runs = record {
      calls = three_moves;
      receipts = refl;
      in_order = three (NextSubmission (caps_for (load 1 2 3 4)) 20 (fresh 0) script)
          (answered [] (setup_steps (load 1 2 3 4)) first (lit≤ tt) refl (lit≤ tt) refl, λ d. refl) (
            answered (first ∷ []) (setup_steps (load 1 2 3 4) ++ first ∷ []) second (lit≤ tt) refl (lit≤ tt) refl,
            λ d. refl,
          ) (
            answered (first ∷ second ∷ []) (setup_steps (load 1 2 3 4) ++ first ∷ second ∷ []) third (lit≤ tt) refl
                (lit≤ tt) refl,
            λ d. refl,
          );
      stops = three (λ before call. found_full before ≡ 0) refl refl refl;
      turns = refl;
      within = lit≤ tt;
      short = lit≤ tt;
      done = ((λ e. refl), (λ e. refl));
      out_of_turns = λ e. absurd cc;
      full = ((λ e. absurd cc), (λ found. absurd (omega (arith, found))));
      grows = record { prefix = refl; bound = lit≤ tt };
      enough = λ e. lit≤ tt;
    };
    accepts = lit≤ tt;
  },
  (λ e. cc),
)

-- what it submitted
all_submitted : All (λ step. step.event ≡ submission_of 0) three_moves
all_submitted =
    All-from_recursion (λ (step : Step). step.event ≡ submission_of 0) three_moves (refl, (refl, (refl, tt)))

-- ---- an engine

module _ (e cell name : ℕ) where
  abbrev taken : Step
  taken = record { event = event.Dispatch e; reply = reply.Dispatch (Taken (record_ticket cell name) 0) }

  abbrev no_fetch : Step
  no_fetch = record { event = event.Fetch e engine_script.member; reply = reply.Fetch NoBatch }

  abbrev no_start : Step
  no_start = record { event = event.Start e; reply = reply.Start Nothing }

  abbrev ended : Step
  ended = record {
    event = event.Finish e (record_ticket cell name) engine_script.outcome;
    reply = reply.Finish (Done 1);
  }

  -- the turns, each by those before it
  four : (next : List (Option Step) → Option Step → Type 0) → next [] (Some taken)
      → next (Some taken ∷ []) (Some no_fetch) → next (Some taken ∷ Some no_fetch ∷ []) (Some no_start)
      → next (Some taken ∷ Some no_fetch ∷ Some no_start ∷ []) (Some ended)
      → InOrder next (Some taken ∷ Some no_fetch ∷ Some no_start ∷ Some ended ∷ [])
  four next one two three last =
      in_order_more next (Some taken ∷ Some no_fetch ∷ Some no_start ∷ []) (Some ended)
      (in_order_more next (Some taken ∷ Some no_fetch ∷ []) (Some no_start)
      (in_order_more next (Some taken ∷ []) (Some no_fetch)
      (in_order_more next [] (Some taken) (in_order_none next) one) two) three) last

  engine_ran : IsCallAnswered (caps_for (load 1 2 3 4)) 20 [] taken
      → IsCallAnswered (caps_for (load 1 2 3 4)) 20 (taken ∷ []) no_fetch
      → IsCallAnswered (caps_for (load 1 2 3 4)) 20 (taken ∷ []) no_start
      → IsCallAnswered (caps_for (load 1 2 3 4)) 20 (taken ∷ []) ended
      → RanAsEngine (caps_for (load 1 2 3 4)) 20 (load 1 2 3 4) e
      (record { number = e; receipts = entry_worked_off e cell name })
  engine_ran one two three last = (
    record { turns = 4; ended = TurnsOut },
    record {
      turns = Some taken ∷ Some no_fetch ∷ Some no_start ∷ Some ended ∷ [];
      number = refl;
      receipts = refl;
      in_order = four (NextTurn (caps_for (load 1 2 3 4)) 20 (fresh e) engine_script) (one, refl) (two, refl)
          (three, refl)
          (last, refl);
      stops = four (λ before turn. found_full (calls_of before) ≡ 0) refl refl refl refl;
      count = refl;
      within = lit≤ tt;
      out_of_turns = λ end. refl;
      full = ((λ end. absurd cc), (λ found. absurd (omega (arith, found))));
      unscripted = λ end. cc;
      grows = record { prefix = refl; bound = lit≤ tt };
    },
    (λ end. cc),
  )

-- the history before engine 0 works, and before engine 1 does
abbrev before_first : List Step
before_first = setup_steps (load 1 2 3 4) ++ three_moves

abbrev before_second : List Step
before_second = setup_steps (load 1 2 3 4) ++ three_moves ++ entry_worked_off 0 3 0

first_engine_ran : RanAsEngine (caps_for (load 1 2 3 4)) 20 (load 1 2 3 4) 0
    (record { number = 0; receipts = entry_worked_off 0 3 0 })
first_engine_ran = engine_ran 0 3 0
    (answered [] before_first (taken 0 3 0) (lit≤ tt) refl (lit≤ tt) refl)
    (answered (taken 0 3 0 ∷ []) (before_first ++ taken 0 3 0 ∷ []) (no_fetch 0 3 0) (lit≤ tt) refl (lit≤ tt) refl)
    (answered (taken 0 3 0 ∷ []) (before_first ++ taken 0 3 0 ∷ []) (no_start 0 3 0) (lit≤ tt) refl (lit≤ tt) refl)
    (answered (taken 0 3 0 ∷ []) (before_first ++ taken 0 3 0 ∷ []) (ended 0 3 0) (lit≤ tt) refl (lit≤ tt) refl)

second_engine_ran : RanAsEngine (caps_for (load 1 2 3 4)) 20 (load 1 2 3 4) 1
    (record { number = 1; receipts = entry_worked_off 1 5 1 })
second_engine_ran = engine_ran 1 5 1
    (answered [] before_second (taken 1 5 1) (lit≤ tt) refl (lit≤ tt) refl)
    (answered (taken 1 5 1 ∷ []) (before_second ++ taken 1 5 1 ∷ []) (no_fetch 1 5 1) (lit≤ tt) refl (lit≤ tt) refl)
    (answered (taken 1 5 1 ∷ []) (before_second ++ taken 1 5 1 ∷ []) (no_start 1 5 1) (lit≤ tt) refl (lit≤ tt) refl)
    (answered (taken 1 5 1 ∷ []) (before_second ++ taken 1 5 1 ∷ []) (ended 1 5 1) (lit≤ tt) refl (lit≤ tt) refl)

-- ---- the run

pub returns-clause-totals : goal.returns-clause-totals
unfolding held_count
returns-clause-totals c = record {
  history = steps_of_three_moves;
  last = _;
  legal = refl;
  replayed = refl;
  within = lit≤ tt;
  setup = refl;
  setup_first = refl;
  submitted = below_one
      (λ n. All (λ step. step.event ≡ submission_of n) (steps_of_actor steps_of_three_moves (Client n)))
      all_submitted;
  counted = refl;
  balanced = refl;
  accepted = lit≤ tt;
  accepted_one = lit≤ tt;
  client_runs = below_one
      (λ n. RanAsClient (caps_for (load 1 2 3 4)) 20 (load 1 2 3 4) n
      (record { number = n; receipts = steps_of_actor steps_of_three_moves (Client n) }))
      client_ran;
  engine_runs = below_two
      (λ n. RanAsEngine (caps_for (load 1 2 3 4)) 20 (load 1 2 3 4) n
      (record { number = n; receipts = steps_of_actor steps_of_three_moves (Engine n) }))
      first_engine_ran second_engine_ran;
}

pub returns-clause-seats : goal.returns-clause-seats
returns-clause-seats c = record {
  client_count = refl;
  engine_count = refl;
  accepted = All-from_recursion (λ (seat : SeatLog). total_accepted seat.receipts ≤ 3) client_seats_after
      (lit≤ tt, tt);
  client_steps = All-from_recursion (λ (seat : SeatLog). length seat.receipts ≤ 4) client_seats_after (lit≤ tt, tt);
  engine_steps = All-from_recursion (λ (seat : SeatLog). length seat.receipts ≤ 4) engine_seats_after
      (lit≤ tt, (lit≤ tt, tt));
  numbers = λ client other less.
      below_one (λ n. (slice_index_or client_seats_after n other).number ≡ n) refl client less;
  submitted = λ client other less. below_one
      (λ n. All (λ step. step.event ≡ submission_of n) (slice_index_or client_seats_after n other).receipts)
      all_submitted client less;
  setup = refl;
  client_runs = λ client other less. below_one
      (λ n. RanAsClient (caps_for (load 1 2 3 4)) 20 (load 1 2 3 4) n (slice_index_or client_seats_after n other))
      client_ran
      client less;
  engine_runs = λ engine other less. below_two
      (λ n. RanAsEngine (caps_for (load 1 2 3 4)) 20 (load 1 2 3 4) n (slice_index_or engine_seats_after n other))
      first_engine_ran second_engine_ran engine less;
}
