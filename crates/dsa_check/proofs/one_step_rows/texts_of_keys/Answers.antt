use Rattle.dsa_check.proofs.one_step_rows.texts_of_keys.Goals as goal
use Rattle.std.proofs.Common.{◌≡◌, ℕ, false, List, [], ◌∷◌, map, codes, refl}
use Rattle.dsa_scenario.specs.declared.fields.Form.TheVariants as form
use Rattle.dsa_scenario.specs.{Fields.{Row}, Worked.{object_of, digits_on_literals}}
use Rattle.dsa_check.specs.declared.fields.Found.TheVariants as found
use Rattle.dsa_check.specs.declared.finding.Reason.{Reason, TheVariants.{Unfit}}
use Rattle.dsa_check.specs.{Lines.{reason_text}, OneStep.{AreKeyTexts}, Reasons.{AreReasonsOf}}
use Rattle.dsa_check.proofs.OneObject.{key_named, no_step_texts}

abbrev step_rows : List Row
step_rows = (codes "step", form.Object) ∷ []

-- where nothing is wrong nothing is told, and where it is something
no_reasons : (reasons : List Reason)
    → AreReasonsOf (object_of ((codes "step", object_of []) ∷ [])) step_rows false reasons → reasons ≡ []
no_reasons [] are = refl
no_reasons (r ∷ reasons) are = absurd are

unfounded : (text : List ℕ) → AreKeyTexts (object_of ((codes "step", object_of []) ∷ [])) step_rows (text ∷ []) → ⊥
unfounded text are =
    let none = no_reasons are.0 are.1 in
    let told = rw none at are.2 in
    absurd cc

untold_keys : (reasons : List Reason) → AreReasonsOf (object_of []) step_rows false reasons
    → [] ≡ map reason_text reasons → ⊥
untold_keys [] are told = absurd are
untold_keys (r ∷ reasons) are told = absurd cc

pub returns : goal.returns
unfolding digits_on_literals
returns c = record {
  right = ([], tt, refl);
  missing = no_step_texts;
  unfit = (
    Unfit (key_named (codes "step")) (found.Whole 1) form.Object ∷ [],
    (record { key = _; named = refl; holder = refl; so = refl; stray = tt; near = tt }, tt),
    refl,
  );
  untold = λ are. untold_keys are.0 are.1 are.2;
  unfounded = unfounded;
}
