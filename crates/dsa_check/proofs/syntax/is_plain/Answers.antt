use Rattle.dsa_check.proofs.syntax.is_plain.Goals as goal
use Rattle.std.proofs.Common.{rules, ◌≡◌, ◌≤◌, ℕ, true, length, arith}
use Rattle.std.proofs.lemmas.Bool.{Decides.{nat_tests}}
use Rattle.std.proofs.lemmas.Iterator.{Adapters.{YieldsList-from_bytes}, Search.{all_from_yields_List}}
use Rattle.std.specs.{Prelude.{◌&&◌, nat_le}, List.{list_all}}
use borrow.Author.Tests.{tests}

-- what is at most so long passes the test
passes : (n most : ℕ) → n ≤ most → nat_le n most ≡ true
passes n most h = grind (arith, nat_tests)

pub returns-then-text-le-MOST_TOLD : goal.returns-then-text-le-MOST_TOLD
returns-then-text-le-MOST_TOLD c =
    let all : c.all.result ≡ list_all (λ byte. nat_le 32 byte && nat_le byte 126) c.args.text.now =
    all_from_yields_List (λ byte. nat_le 32 byte && nat_le byte 126) _ _ c.all.result c.all.ensures.ran
    (YieldsList-from_bytes c.args.text.now cc) (λ x b q k. search (rules, tests)) in
    rw (passes (length c.args.text.now) 40 c.if-text-le-MOST_TOLD.true) all
