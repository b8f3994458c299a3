use Rattle.dsa_shared_rows.proofs.workers.scripts_not_run.Goals as goal
use Rattle.std.proofs.Common.{◌≡◌, ◌<◌, List, [], ◌∷◌, ap, arith, length, refl, slice_index_or, subst}
use Rattle.std.specs.Prelude.{take}
use Rattle.dsa_book.specs.{declared.event.Step.{Step}, Machine.{stored_steps}}
use Rattle.dsa_book.specs.declared.answer.SubmitAnswer.TheVariants.{Full}
use Rattle.dsa_workers.specs.Calls.{found_full, steps_done}
use Rattle.dsa_shared_rows.specs.Worked.{of_client, taken_of_client}

-- a list of one call, which is this one
alone : (calls : List Step) → length calls ≡ 1 → slice_index_or calls 0 (taken_of_client 0) ≡ taken_of_client 0
    → calls ≡ taken_of_client 0 ∷ []
alone [] one at = absurd (omega (arith, one))
alone (call ∷ []) one at = ap (λ (call : Step). call ∷ []) at
alone (call ∷ other ∷ calls) one at = absurd (omega (arith, one))

-- the first of these found the history full
first_full : (calls : List Step) → 1 < length calls
    → slice_index_or calls 0 (of_client 0 Full) ≡ of_client 0 Full → found_full (take 1 calls) ≡ 1
first_full [] few at = absurd (omega (arith, few))
first_full (call ∷ calls) few at = ap (λ (call : Step). found_full (call ∷ [])) at

pub returns-clause-receipts : goal.returns-clause-receipts
returns-clause-receipts c is =
    let same = alone is.calls is.turns (is.in_order 0 (taken_of_client 0) (omega (arith, is.turns))) in
    let none : [] ≡ stored_steps is.calls = is.receipts in
    omega (arith, ap length (subst (λ (calls : List Step). [] ≡ stored_steps calls) same none))

pub returns-clause-in_order : goal.returns-clause-in_order
returns-clause-in_order c is = is.in_order 0 (taken_of_client 0) (omega (arith, is.turns))

pub returns-clause-stops : goal.returns-clause-stops
returns-clause-stops c is =
    let few : 1 < length is.calls = omega (arith, is.turns) in
    let first = first_full is.calls few (is.in_order 0 (of_client 0 Full) (omega (arith, few))) in
    omega (arith, first, is.stops 1 (of_client 0 Full) few)

pub returns-clause-short : goal.returns-clause-short
returns-clause-short c is =
    let same = alone is.calls is.turns (is.in_order 0 (taken_of_client 0) (omega (arith, is.turns))) in
    omega (arith, is.short, ap steps_done same)

pub returns-clause-turns_left : goal.returns-clause-turns_left
returns-clause-turns_left c is = omega (arith, is.out_of_turns refl)
