use Rattle.dsa_check.proofs.near.is_asked.Goals as goal
use Rattle.std.proofs.Common.{rules, ◌≡◌}
use Rattle.std.proofs.lemmas.Iterator.{YieldsList-from_slice, Search.{any_from_yields_List}}
use Rattle.std.specs.{Prelude.{bytes_eq, codes}, List.{list_any}}
use Rattle.dsa_scenario.specs.declared.fields.Field.{Field}
use Rattle.dsa_check.proofs.Keys.{asked_by}
use borrow.Author.Tests.{tests}

pub returns-else-eq : goal.returns-else-eq
returns-else-eq c =
    let any : c.any.result ≡ list_any (λ (field : Field). bytes_eq field.name.now c.args.name.now) c.args.fields.now =
    any_from_yields_List (λ (field : Field). bytes_eq field.name.now c.args.name.now) _ _ c.any.result c.any.ensures.ran
    (YieldsList-from_slice c.args.fields.now cc) (λ x b q k. search (rules, tests)) in
    let other : bytes_eq c.args.name.now (codes "do") ≡ c.eq.result = search rules in
    rw (other, c.if-eq.false) (asked_by c.args.fields.now c.args.name.now c.any.result any)
