use Rattle.dsa_check.proofs.one_step_rows.texts_of_steps.Goals as goal
use Rattle.std.proofs.Common.{ℕ, List, [], ◌∷◌, refl}
use Rattle.dsa_scenario.specs.Worked.{object_of, poll_step, digits_on_literals}
use Rattle.dsa_check.specs.OneStep.{AreStepTexts}
use Rattle.dsa_check.proofs.OneObject.{null_texts, no_kind_texts, command_texts, called_texts, no_reasons}

unfounded : (text : List ℕ) → AreStepTexts (object_of poll_step) (text ∷ []) → ⊥
unfounded text are =
    let none = no_reasons are.0 are.1 in
    let told = rw none at are.2 in
    absurd cc

pub returns : goal.returns
unfolding digits_on_literals
returns c = record {
  right = ([], tt, refl);
  no_object = null_texts;
  no_kind = no_kind_texts;
  seen = ([], tt, refl);
  both = command_texts;
  called = called_texts;
  untold = λ are. let told = rw are.1 at are.2 in absurd cc;
  unfounded = unfounded;
}
