use Rattle.dsa_serve.proofs.rows.reasons_of_lines.Goals as goal
use Rattle.std.proofs.Common.{[], refl}
use Rattle.dsa_scenario.specs.Worked.{digits_on_literals}
use Rattle.dsa_serve.specs.Worked.{flaw_of_a_brace}
use Rattle.dsa_serve.proofs.RowLines.{json_apart}
use Rattle.dsa_check.proofs.OneObject.{null_texts, no_kind_texts, command_texts, no_step_texts}

pub returns : goal.returns
unfolding digits_on_literals
returns c = record {
  no_kind = (refl, (_, no_kind_texts, refl));
  no_object = (refl, (_, null_texts, refl));
  two = (refl, (_, command_texts, refl));
  no_step = (refl, (_, no_step_texts, refl));
  explained = (refl, (_, no_kind_texts, refl));
  explained_null = (refl, (_, null_texts, refl));
  seen = (refl, (_, ([], tt, refl), refl));
  other_word = λ is. json_apart flaw_of_a_brace is.1.0 is.1.2;
  step = λ why is. let none = is.0 in absurd cc;
  other_step = λ is. absurd cc;
}
