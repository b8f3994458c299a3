use Rattle.dsa_shared.proofs.locked.checks.mismatch.Goals as goal
use Rattle.std.proofs.Common.{◌≡◌, ◌↔◌, ℕ, List, Option, Some, None, IsNone, IfSome, IfNone, inl, inr, refl, ap}
use Rattle.std.proofs.Common.{◌∙◌, sym, subst, arith}
use Rattle.std.{specs.Option.{IsSomeAnd}, proofs.lemmas.Bool.{OnTrue_at}}
use Rattle.dsa_book.specs.{declared.event.{Step.{Step}, Actor.TheVariants.{Admin}}, Totals.{steps_of_actor}}
use Rattle.dsa_shared.specs.Compare.{DiffersFirstAt}
use Rattle.dsa_shared.specs.Seat.{SeatLog, client_of, engine_of_seat, number_of_seat, receipts_of}
use Rattle.dsa_shared.specs.Settle.{AllMatch, FirstMismatch, IsFirstMismatch, Match}
use Rattle.std.proofs.lemmas.Grind.{common_steps}
use Rattle.dsa_shared.proofs.locked.checks.mismatch.{Given.{Over}, Goals.{In_default-first_mismatch-2}}

-- where all numbered seats match, the administrator's mismatch is the first
admin_first : (h : List Step) (clients engines : List SeatLog) (admin : Option (List Step)) (own : List Step)
    (found : Option ℕ) → AllMatch client_of receipts_of h clients → AllMatch engine_of_seat receipts_of h engines
    → admin ≡ Some own → IfSome found (DiffersFirstAt own (steps_of_actor h Admin))
    → IfSome found (IsFirstMismatch h clients engines admin)
admin_first h clients engines admin own (Some i) client_match engine_match is differs =
    inr (inr (
      client_match,
      engine_match,
      subst (λ a. IsSomeAnd a (λ r. DiffersFirstAt r (steps_of_actor h Admin) i)) (sym is) differs,
    ))
admin_first h clients engines admin own None client_match engine_match is differs = differs

-- where the administrator's receipts match too, all do
all_match : (h : List Step) (clients engines : List SeatLog) (admin : Option (List Step)) (own : List Step)
    (found : Option ℕ) → AllMatch client_of receipts_of h clients → AllMatch engine_of_seat receipts_of h engines
    → admin ≡ Some own → (IsNone found ↔ (own ≡ steps_of_actor h Admin)) → IfNone found (Match h clients engines admin)
all_match h clients engines admin own (Some i) client_match engine_match is same = tt
all_match h clients engines admin own None client_match engine_match is same = record {
  client_receipts = client_match;
  engine_receipts = engine_match;
  admin_receipts = is ∙ ap Some (same.0 refl);
}

-- no numbered seat differs
numbered_match : (g : Over) (c : In_default-first_mismatch-2 g)
    → AllMatch client_of receipts_of c.args.history.now c.args.seats.now.clients.items
    × AllMatch engine_of_seat receipts_of c.args.history.now c.args.seats.now.engines.items
numbered_match g c =
    let history = c.args.history.now in (
      subst (AllMatch client_of receipts_of history) c.deref.ensures.value c.in_default-first_mismatch.ensures.none,
      subst (AllMatch engine_of_seat receipts_of history) c.deref-2.ensures.value
          c.in_default-first_mismatch-2.ensures.none,
    )

pub returns-then-all_match-clause-none : goal.returns-then-all_match-clause-none
returns-then-all_match-clause-none g c = OnTrue_at c.if-all_match.true c.all_match.ensures

pub returns-in-Some-first_mismatch-clause-some : goal.returns-in-Some-first_mismatch-clause-some
returns-in-Some-first_mismatch-clause-some g c =
    inl (subst (λ xs. FirstMismatch number_of_seat client_of receipts_of c.args.history.now xs
    c.in-Some-first_mismatch.at)
    c.deref.ensures.value c.in-Some-first_mismatch.ensures.some)

pub returns-in-Some-first_mismatch-2-clause-some : goal.returns-in-Some-first_mismatch-2-clause-some
returns-in-Some-first_mismatch-2-clause-some g c =
    let history = c.args.history.now in
    inr (inl (
      subst (AllMatch client_of receipts_of history) c.deref.ensures.value c.in_default-first_mismatch.ensures.none,
      subst (λ xs. FirstMismatch number_of_seat engine_of_seat receipts_of history xs c.in-Some-first_mismatch-2.at)
          c.deref-2.ensures.value c.in-Some-first_mismatch-2.ensures.some,
    ))

pub returns-clause-none : goal.returns-clause-none
returns-clause-none g c =
    let m = (goal.at.returns-clause-none g c).In_default-first_mismatch-2 in
    all_match c.args.history.now _ _ _ _ _ (numbered_match g m).0 (numbered_match g m).1
    c.in-Some.is (subst (λ r. IsNone c.compare_receipts.result ↔ (r ≡ steps_of_actor c.args.history.now Admin))
    c.receipts.ensures c.compare_receipts.ensures.none)

pub returns-clause-some : goal.returns-clause-some
returns-clause-some g c =
    let m = (goal.at.returns-clause-some g c).In_default-first_mismatch-2 in
    admin_first c.args.history.now _ _ _ _ _ (numbered_match g m).0 (numbered_match g m).1 c.in-Some.is
    (subst (λ r. IfSome c.compare_receipts.result (DiffersFirstAt r (steps_of_actor c.args.history.now Admin)))
    c.receipts.ensures c.compare_receipts.ensures.some)

pub first_mismatch-requires-2 : goal.first_mismatch-requires-2
first_mismatch-requires-2 = grind (arith, common_steps)

pub unreachable-requires : goal.unreachable-requires
unreachable-requires = grind (arith, common_steps)

pub unreachable-unreachable : goal.unreachable-unreachable
unreachable-unreachable = grind (arith, common_steps)

pub first_mismatch-requires : goal.first_mismatch-requires
first_mismatch-requires = grind (arith, common_steps)
