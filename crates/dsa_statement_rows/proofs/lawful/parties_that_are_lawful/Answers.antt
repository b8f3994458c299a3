use Rattle.dsa_statement_rows.proofs.lawful.parties_that_are_lawful.Goals as goal
use Rattle.std.proofs.Common.{◌≡◌, ◌==◌, ◌∙◌, ◌<◌, ℕ, arith, eqb-true, false, refl, subst, sym, true, None, Some}
use Rattle.std.proofs.lemmas.Bool.{and_parts}
use Rattle.std.specs.Prelude.{◌&&◌}
use Rattle.dsa_keys.specs.{Parties.{World}, Steps.{IsLabelled}}
use Rattle.dsa_explore.specs.WorkedSearch.{uneven_caps}

twice : (w : World ℕ) → IsLabelled uneven_caps w.labels w.state
    → ((w.labels 0 == w.labels 1) && (w.state.work.setup.next_name == 2)) ≡ true → ⊥
twice w labelled good =
    let both = and_parts (w.labels 0 == w.labels 1) (w.state.work.setup.next_name == 2) good in
    let named = eqb-true w.state.work.setup.next_name 2 both.1 in
    omega (
      arith,
      labelled.distinct 0 1 (omega (arith, named)) (omega (arith, named))
          (eqb-true (w.labels 0) (w.labels 1) both.0),
    )

pub returns-clause-idle : goal.returns-clause-idle
returns-clause-idle c = record {
  fresh = λ w move offer labelled good at. let none : None ≡ Some offer = at in absurd cc;
  kept = λ w w' move reply labelled good step. refl;
}

pub returns-clause-no_world : goal.returns-clause-no_world
returns-clause-no_world c = record {
  fresh = λ w move offer labelled good at. let never : false ≡ true = good in absurd cc;
  kept = λ w w' move reply labelled good step. let never : false ≡ true = good in absurd cc;
}

pub returns-clause-one_label : goal.returns-clause-one_label
returns-clause-one_label c = record {
  fresh = λ w move offer labelled good at. absurd (twice w labelled good);
  kept = λ w w' move reply labelled good step. absurd (twice w labelled good);
}
