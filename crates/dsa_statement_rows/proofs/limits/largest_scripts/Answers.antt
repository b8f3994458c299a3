use Rattle.dsa_statement_rows.proofs.limits.largest_scripts.Goals as goal
use Rattle.std.proofs.Common.{◌≡◌, ◌^◌, List, arith, length, refl, true}
use Rattle.std.proofs.lemmas.Bool.{and_from, le-leb}

pub returns-clause-clients : goal.returns-clause-clients
returns-clause-clients c clients count boundaries parts =
    let begun = and_from _ _ (and_from _ _ (and_from _ _ (and_from _ _ refl boundaries) parts) refl) refl in
    let few = le-leb (length clients) (2 ^ 16) (omega (arith, count)) in
    and_from _ _ (and_from _ _ (and_from _ _ begun refl) few) refl

pub returns-clause-administrators : goal.returns-clause-administrators
returns-clause-administrators c administrators count parts =
    let begun = and_from _ _ (and_from _ _ (and_from _ _ (and_from _ _ refl refl) refl) parts) refl in
    let few = le-leb (length administrators) (2 ^ 16) (omega (arith, count)) in
    and_from _ _ (and_from _ _ (and_from _ _ begun refl) refl) few
