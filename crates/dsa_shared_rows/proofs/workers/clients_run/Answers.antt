use Rattle.dsa_shared_rows.proofs.workers.clients_run.Goals as goal
use Rattle.std.proofs.Common.{◌≡◌, zero, suc, [], ◌∷◌, arith, lit≤, refl}
use Rattle.dsa_book.specs.declared.answer.SubmitAnswer.TheVariants.{Accepted}
use Rattle.dsa_workers.specs.Calls.{found_full, InOrder, NextSubmission}
use Rattle.dsa_shared_rows.proofs.ByKind.{answered_wide}
use Rattle.dsa_shared_rows.specs.Worked.{script_call, script_step, seat_of, ticket_named_so, wide_device, wide_set_up}

in_order : InOrder (NextSubmission wide_device 9 (seat_of 3 []) (script_step 6 ∷ []))
    (script_call 3 6 (Accepted (ticket_named_so 0)) ∷ [])
in_order zero d lt = (
  answered_wide 9 [] wide_set_up (script_call 3 6 (Accepted (ticket_named_so 0))) (lit≤ tt) (lit≤ tt) refl (lit≤ tt)
      refl,
  λ d. refl,
)
in_order (suc k) d lt = absurd (omega (arith, lt))

not_full : InOrder (λ before call. found_full before ≡ 0) (script_call 3 6 (Accepted (ticket_named_so 0)) ∷ [])
not_full zero d lt = refl
not_full (suc k) d lt = absurd (omega (arith, lt))

pub returns-clause-done : goal.returns-clause-done
returns-clause-done c = record {
  number = refl;
  runs = record {
    calls = script_call 3 6 (Accepted (ticket_named_so 0)) ∷ [];
    receipts = refl;
    in_order = in_order;
    stops = not_full;
    turns = refl;
    within = lit≤ tt;
    short = lit≤ tt;
    done = (λ is. refl, λ is. refl);
    out_of_turns = λ none. absurd (grind (arith, none));
    full = (λ none. absurd (grind (arith, none)), λ none. absurd (omega (arith, none)));
    grows = record { prefix = refl; bound = lit≤ tt };
    enough = λ is. lit≤ tt;
  };
  accepts = lit≤ tt;
}

pub returns-clause-no_turn : goal.returns-clause-no_turn
returns-clause-no_turn c = record {
  number = refl;
  runs = record {
    calls = [];
    receipts = refl;
    in_order = λ k d lt. absurd (omega (arith, lt));
    stops = λ k d lt. absurd (omega (arith, lt));
    turns = refl;
    within = lit≤ tt;
    short = lit≤ tt;
    done = (λ none. absurd (grind (arith, none)), λ none. absurd (omega (arith, none)));
    out_of_turns = λ is. refl;
    full = (λ none. absurd (grind (arith, none)), λ none. absurd (omega (arith, none)));
    grows = record { prefix = refl; bound = lit≤ tt };
    enough = λ none. absurd (grind (arith, none));
  };
  accepts = lit≤ tt;
}
