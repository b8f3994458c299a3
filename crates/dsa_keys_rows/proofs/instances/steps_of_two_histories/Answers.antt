use Rattle.dsa_keys_rows.proofs.instances.steps_of_two_histories.Goals as goal
use Rattle.std.proofs.Common.{arith, refl, [], ◌∷◌}
use Rattle.dsa_keys.proofs.{SameSteps.{keys-say-all}, Replays.{walks-alike}}
use Rattle.dsa_keys_rows.specs.{Holding.{listed}, Histories.{one_way, drain_behind, drain_behind_elsewhere, two_ends}}
use Rattle.dsa_worked.specs.Uneven.{three_two_one}
use Rattle.dsa_keys_rows.proofs.Distinct.{fresh_of_two, fresh_of_three, labelled_two, labelled_three, name_count}
use Rattle.dsa_keys_rows.proofs.Distinct.{keys_of}
use Rattle.dsa_keys_rows.proofs.Distinct.{in_use_of_two, in_use_of_three, fresh_ends}

pub returns-clause-labelled : goal.returns-clause-labelled
returns-clause-labelled c s reaches = labelled_two 5 6 (λ e. omega (arith, e)) one_way s reaches refl

pub returns-clause-one_label_twice : goal.returns-clause-one_label_twice
returns-clause-one_label_twice c s reaches labelled =
    let names = name_count one_way s 2 reaches refl in
    omega (arith, labelled.distinct 0 1 (omega (arith, names)) (omega (arith, names)) refl)

pub returns-clause-same_step : goal.returns-clause-same_step
returns-clause-same_step c s s' t reaches reached leads =
    keys-say-all three_two_one (listed (5 ∷ 6 ∷ [])) (listed (4 ∷ 5 ∷ 6 ∷ [])) s s' t _ _ 7
    (labelled_two 5 6 (λ e. omega (arith, e)) drain_behind s reaches refl)
    (labelled_three drain_behind_elsewhere t reached refl)
    (fresh_of_two s (name_count drain_behind s 2 reaches refl))
    (fresh_of_three t (name_count drain_behind_elsewhere t 3 reached refl))
    (keys_of (listed (5 ∷ 6 ∷ [])) (listed (4 ∷ 5 ∷ 6 ∷ [])) drain_behind drain_behind_elsewhere s t reaches
    reached refl)
    leads

pub returns-clause-same_replay : goal.returns-clause-same_replay
returns-clause-same_replay c s s' t labels' reaches reached leads =
    walks-alike three_two_one (listed (5 ∷ 6 ∷ [])) (listed (4 ∷ 5 ∷ 6 ∷ [])) labels' s t s' (4 ∷ 5 ∷ 6 ∷ []) two_ends
    (labelled_two 5 6 (λ e. omega (arith, e)) drain_behind s reaches refl)
    (labelled_three drain_behind_elsewhere t reached refl)
    (in_use_of_two s (name_count drain_behind s 2 reaches refl))
    (in_use_of_three t (name_count drain_behind_elsewhere t 3 reached refl))
    fresh_ends
    (keys_of (listed (5 ∷ 6 ∷ [])) (listed (4 ∷ 5 ∷ 6 ∷ [])) drain_behind drain_behind_elsewhere s t reaches
    reached refl)
    leads
