use Rattle.dsa_conform.proofs.rows.a_run.Goals as goal
use Rattle.std.{proofs.Common.{refl}, specs.Fmt.{digits}}

pub returns-clause-conforms : goal.returns-clause-conforms
unfolding digits
returns-clause-conforms c = record {
  of_actions = (refl, (refl, (refl, (refl, (refl, (refl, (refl, (refl, (refl, tt)))))))));
  run = refl;
  shown = (refl, (refl, (refl, (refl, (refl, (refl, (refl, (refl, (refl, tt)))))))));
}

pub returns-clause-others : goal.returns-clause-others
unfolding digits
returns-clause-others c = (
  λ is. let shown = is.shown.0 in absurd cc,
  λ is. let asked = is.of_actions.0 in absurd cc,
  λ is. let run = is.run in absurd cc,
)

pub returns-clause-second_not_shown : goal.returns-clause-second_not_shown
unfolding digits
returns-clause-second_not_shown c are =
    let shown = are.1.0 in
    absurd cc

pub returns-clause-second_queue : goal.returns-clause-second_queue
unfolding digits
returns-clause-second_queue c = record {
  of_actions = (refl, (refl, (refl, (refl, (refl, (refl, (refl, (refl, (refl, (refl, tt))))))))));
  run = refl;
  shown = (refl, (refl, (refl, (refl, (refl, (refl, (refl, (refl, (refl, (refl, tt))))))))));
}

pub returns-clause-first_queue : goal.returns-clause-first_queue
unfolding digits
returns-clause-first_queue c is =
    let run = is.run in
    absurd cc
