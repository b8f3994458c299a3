use Rattle.dsa_check.proofs.warnings.is_named.Goals as goal
use Rattle.std.proofs.Common.{rules, ◌≡◌, ◌∙◌, Bor, List, ℕ}
use Rattle.std.proofs.lemmas.Iterator.{YieldsList-from_slice, Search.{any_from_yields_List}}
use Rattle.std.specs.{Prelude.{bytes_eq}, List.{list_any}}
use Rattle.dsa_check.proofs.Warned.{named_by}
use borrow.Author.Tests.{tests}

pub returns : goal.returns
returns c =
    let any : c.any.result ≡ list_any (λ (name : Bor (List ℕ)). bytes_eq name.now c.args.key.now) c.args.names.now =
    any_from_yields_List (λ (name : Bor (List ℕ)). bytes_eq name.now c.args.key.now) _ _ c.any.result
    c.any.ensures.ran (YieldsList-from_slice c.args.names.now cc) (λ x b q k. search (rules, tests)) in
    any ∙ named_by c.args.key.now c.args.names.now
