use Rattle.dsa_questions.proofs.reading.add_wanted.Goals as goal
use Rattle.std.proofs.Common.{◌≡◌, ◌∙◌, List, Option, ap, option_map, string_bytes, subst, sym}
use Rattle.std.specs.Prelude.{IfOk}
use Rattle.serde_json.specs.View.{view}
use Rattle.dsa_base.specs.Rows.{when}
use Rattle.dsa_questions.specs.declared.question.Condition.{Condition}
use Rattle.dsa_questions.specs.{Formed.{as_names}, Reading.{inquiry_of, wanted_onto}}

pub returns-in_default : goal.returns-in_default
returns-in_default c =
    subst (λ (o : Option (List Condition)). IfOk c.add_states.result (λ good.
    when good (inquiry_of c.add_states.new.questions)
    ≡ wanted_onto c.args.kind (as_names c.args.naming.now) (inquiry_of c.args.questions.now) (string_bytes c.args.name)
    (view c.args.that.now) o))
    (ap (option_map (λ v. v.items)) (sym c.in_default.is) ∙ c.in_ok-conditions.ensures) c.add_states.ensures
