use Rattle.dsa_conform.proofs.rows.farthest_steps.Goals as goal
use Rattle.dsa_book.specs.declared.event.Event.TheVariants as event
use Rattle.std.specs.Fmt.{digits}
use Rattle.std.proofs.Common.{inl, inr, [], ◌∷◌, refl, subst, codes}
use Rattle.std.proofs.lemmas.Option.{same_Some}
use Rattle.dsa_scenario.specs.declared.actions.Action.{Action, TheVariants.{Ask}}
use Rattle.dsa_scenario.specs.Worked.{smallest_caps}
use Rattle.dsa_conform.specs.{Run.{IsShownRun}, Seen.{Seen}, Worked.{answered}}
use Rattle.dsa_conform.proofs.RowRuns.{nothing, poll_differs}

pub returns-clause-all : goal.returns-clause-all
returns-clause-all c = inl refl

pub returns-clause-differs : goal.returns-clause-differs
returns-clause-differs c = inr ((Ask event.Poll, answered (codes "active")), refl, poll_differs.none)

pub returns-clause-too_early : goal.returns-clause-too_early
unfolding digits
returns-clause-too_early c (inl none) = absurd cc
returns-clause-too_early c (inr next) =
    let polled : Action × Seen = (Ask event.Poll, answered (codes "nothing")) in
    let run : IsShownRun smallest_caps 9 (polled ∷ []) (nothing ∷ []) =
    record { of_actions = (refl, tt); run = refl; shown = (refl, tt) } in
    next.2 (nothing ∷ [])
    (subst (λ (o : Action × Seen). IsShownRun smallest_caps 9 (o ∷ []) (nothing ∷ [])) (same_Some polled next.0 next.1)
    run)

pub returns-clause-behind : goal.returns-clause-behind
returns-clause-behind c (inl one) = absurd cc
returns-clause-behind c (inr next) =
    let none = next.1 in
    absurd cc
