use Rattle.dsa_questions.proofs.conditions.first_called.Goals as goal
use Rattle.std.proofs.Common.{rules, ◌≡◌, ◌∙◌, String, string_bytes}
use Rattle.std.proofs.lemmas.Iterator.{YieldsList-from_slice, Search.{position_from_yields_List}}
use Rattle.std.specs.{declared.alloc.Global.{Global}, Prelude.{bytes_eq, position}}
use Rattle.dsa_questions.proofs.Called.{first_called, if_within}
use borrow.Author.Tests.{tests}

pub returns-clause-place : goal.returns-clause-place
returns-clause-place c =
    let place : c.position.result
    ≡ position (λ (label : String Global). bytes_eq (string_bytes label) c.args.text.now) c.args.labels.now =
    position_from_yields_List (λ (label : String Global). bytes_eq (string_bytes label) c.args.text.now) _ _
    c.position.result c.position.ensures.ran (YieldsList-from_slice c.args.labels.now cc)
    (λ x b q k. search (rules, tests)) in
    place ∙ first_called string_bytes (λ label. bytes_eq label c.args.text.now) c.args.labels.now

pub returns-clause-within : goal.returns-clause-within
returns-clause-within c =
    let test = λ (label : String Global). bytes_eq (string_bytes label) c.args.text.now in
    let place : c.position.result ≡ position test c.args.labels.now =
    position_from_yields_List test _ _ c.position.result c.position.ensures.ran
    (YieldsList-from_slice c.args.labels.now cc) (λ x b q k. search (rules, tests)) in
    if_within test c.args.labels.now c.position.result place
