use Rattle.dsa_questions.proofs.conditions.is_called.Goals as goal
use Rattle.std.proofs.Common.{rules, ◌≡◌, ◌∙◌, String, string_bytes}
use Rattle.std.proofs.lemmas.Iterator.{YieldsList-from_slice, Search.{any_from_yields_List}}
use Rattle.std.specs.{declared.alloc.Global.{Global}, Prelude.{bytes_eq}, List.{list_any}}
use Rattle.dsa_questions.proofs.Called.{any_called}
use borrow.Author.Tests.{tests}

pub returns : goal.returns
returns c =
    let any : c.any.result
    ≡ list_any (λ (label : String Global). bytes_eq (string_bytes label) c.args.text.now) c.args.labels.now =
    any_from_yields_List (λ (label : String Global). bytes_eq (string_bytes label) c.args.text.now) _ _ c.any.result
    c.any.ensures.ran (YieldsList-from_slice c.args.labels.now cc) (λ x b q k. search (rules, tests)) in
    any ∙ any_called string_bytes (λ label. bytes_eq label c.args.text.now) c.args.labels.now
