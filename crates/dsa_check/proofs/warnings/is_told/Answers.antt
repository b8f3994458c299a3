use Rattle.dsa_check.proofs.warnings.is_told.Goals as goal
use Rattle.std.proofs.Common.{rules, ◌≡◌, ◌∙◌, String, string_bytes}
use Rattle.std.proofs.lemmas.Iterator.{YieldsList-from_slice, Search.{any_from_yields_List}}
use Rattle.std.specs.{declared.alloc.Global.{Global}, Prelude.{bytes_eq}, List.{list_any}}
use Rattle.dsa_check.proofs.Warned.{told_by}
use borrow.Author.Tests.{tests}

pub returns : goal.returns
returns c =
    let any : c.any.result
    ≡ list_any (λ (other : String Global). bytes_eq (string_bytes other) c.args.key.now) c.args.told.now =
    any_from_yields_List (λ (other : String Global). bytes_eq (string_bytes other) c.args.key.now) _ _ c.any.result
    c.any.ensures.ran (YieldsList-from_slice c.args.told.now cc) (λ x b q k. search (rules, tests)) in
    any ∙ told_by c.args.key.now c.args.told.now
