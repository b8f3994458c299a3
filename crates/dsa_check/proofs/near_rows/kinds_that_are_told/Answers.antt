use Rattle.dsa_check.proofs.near_rows.kinds_that_are_told.Goals as goal
use Rattle.std.proofs.Common.{◌≡◌, refl}
use Rattle.std.specs.Prelude.{Some, None}
use Rattle.std.proofs.lemmas.Bool.{false≢true}
use Rattle.dsa_scenario.specs.declared.actions.StepKind.{TheVariants.{Poll, Clear}}
use Rattle.dsa_check.specs.Worked.{near_on_literals}

pub returns : goal.returns
unfolding near_on_literals
returns c = record {
  not_plain = record { none = refl; plain = refl; text = tt; nearest = refl };
  step = record { none = refl; plain = refl; text = tt; nearest = refl };
  near = λ text is. record { none = refl; plain = refl; text = is; nearest = refl };
  untold = λ text is. let near : None ≡ Some Poll = is.nearest in absurd cc;
  another = λ text is. let near : Some Clear ≡ Some Poll = is.nearest in absurd cc;
  none_near = λ text is. let near : Some Poll ≡ None = is.nearest in absurd cc;
  other_text = λ text told is. let same = is.text in absurd cc;
  untold_text = λ near is. false≢true is.plain;
  a_kind = λ told near is. let none = is.none in absurd cc;
}
