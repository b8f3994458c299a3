use Rattle.dsa_questions.proofs.reading.add_states.Goals as goal
use Rattle.std.proofs.Common.{◌∙◌, [], ◌∷◌, ◌++◌, ap, map, string_bytes}
use Rattle.std.proofs.lemmas.List.{map-append}
use Rattle.serde_json.specs.View.{view}
use Rattle.dsa_questions.specs.{Formed.{formed, as_names}, Reading.{inquiry_of, question_asked, states}}
use Rattle.dsa_questions.proofs.Wanted.{states-none, states-some}

pub returns-then-not-branch : goal.returns-then-not-branch
returns-then-not-branch c =
    states-none c.args.kind (as_names c.args.naming.now) (inquiry_of c.args.questions.now) (string_bytes c.args.name)
    (view c.args.that.now) c.most_nested.result c.most_nested.ensures _ (formed c.add_formula.new.so_far)
    (λ i. record { terms = c.new.ensures.items i; watches = (c.replace.ensures.value i).items })
    c.in_ok-add_formula.field-0 c.if-not-branch.true c.in_ok-add_formula.ensures

pub returns : goal.returns
returns c =
    states-some c.args.kind (as_names c.args.naming.now) (inquiry_of c.args.questions.now) (string_bytes c.args.name)
    (view c.args.that.now) c.most_nested.result c.most_nested.ensures _ (formed c.add_formula.new.so_far)
    (λ i. record { terms = c.new.ensures.items i; watches = (c.replace.ensures.value i).items })
    c.in_ok-add_formula.field-0 c.if-not-branch.false c.in_ok-add_formula.ensures _
    (λ i. record {
      asked = (ap (map question_asked) c.in_ok-push.ensures.items
          ∙ map-append question_asked c.args.questions.now.items.items _
          ∙ ap (λ t. map question_asked c.args.questions.now.items.items
          ++ record { kind = c.args.kind; name = string_bytes c.args.name; wanted = states t } ∷ [])
          c.in_ok-terms_for.ensures) i;
      watches = c.add_formula.new.so_far.watches.items;
    })
