use Rattle.dsa_shared_rows.proofs.workers.scripts_run.Goals as goal
use Rattle.std.proofs.Common.{ℕ, ◌<◌, List, [], ◌∷◌, ◌++◌, lit≤, refl}
use Rattle.dsa_book.specs.declared.event.Step.{Step}
use Rattle.dsa_book.specs.declared.answer.SubmitAnswer.TheVariants.{Full}
use Rattle.dsa_workers.proofs.Calls.{SoFar, so_far_none, so_far_more, ends_done, ends_out, ends_full}
use Rattle.dsa_shared_rows.specs.Worked.{again_of_client, of_client, taken_of_client}

-- a worker that may call anything, and whose first step is accepted
one_taken : (steps : ℕ) (old : List Step) → 0 < steps
    → SoFar (λ before call. Unit {0}) steps old (old ++ taken_of_client 0 ∷ []) 1 1
one_taken steps old some =
    so_far_more _ steps old old _ 0 0 1 (taken_of_client 0) (so_far_none _ steps old) tt refl refl some refl

pub returns-clause-done : goal.returns-clause-done
returns-clause-done c =
    ends_done _ 2 3 _ _ 2 2 2 (so_far_more _ 2 _ _ _ 1 1 2 (taken_of_client 0)
    (one_taken 2 (again_of_client 0 ∷ []) (lit≤ tt)) tt refl refl (lit≤ tt) refl) refl (lit≤ tt) (lit≤ tt)

pub returns-clause-out_of_turns : goal.returns-clause-out_of_turns
returns-clause-out_of_turns c = ends_out _ 2 1 _ _ 1 1 (one_taken 2 [] (lit≤ tt)) refl (lit≤ tt)

pub returns-clause-full : goal.returns-clause-full
returns-clause-full c =
    ends_full _ 2 3 [] [] [] 0 0 (of_client 0 Full) (so_far_none _ 2 []) tt refl refl (lit≤ tt) (lit≤ tt)

pub returns-clause-waited : goal.returns-clause-waited
returns-clause-waited c =
    ends_done _ 1 3 _ _ 2 2 1 (so_far_more _ 1 [] (again_of_client 0 ∷ []) _ 1 0 1 (taken_of_client 0)
    (so_far_more _ 1 [] [] _ 0 0 0 (again_of_client 0) (so_far_none _ 1 []) tt refl refl (lit≤ tt) refl)
    tt refl refl (lit≤ tt) refl) refl (lit≤ tt) (lit≤ tt)
