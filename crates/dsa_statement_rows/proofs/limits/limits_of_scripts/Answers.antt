use Rattle.dsa_statement_rows.proofs.limits.limits_of_scripts.Goals as goal
use Rattle.std.proofs.Common.{◌≡◌, ◌≤◌, ◌<◌, ◌^◌, List, length, nat_le, nat_lt, true}
use Rattle.std.proofs.lemmas.Bool.{and_parts, leb-true, ltb-true}

pub returns-clause-entries : goal.returns-clause-entries
returns-clause-entries c entries clients acts administrators is =
    let h = and_parts _ (nat_le (length administrators) (2 ^ 16)) is in
    let g = and_parts _ (nat_le (length clients) (2 ^ 16)) h.0 in
    let f = and_parts _ (nat_lt (length acts) (2 ^ 32)) g.0 in
    ltb-true (length entries) (2 ^ 32) (and_parts _ (nat_lt (length entries) (2 ^ 32)) f.0).1

pub returns-clause-acts : goal.returns-clause-acts
returns-clause-acts c entries clients acts administrators is =
    let h = and_parts _ (nat_le (length administrators) (2 ^ 16)) is in
    let g = and_parts _ (nat_le (length clients) (2 ^ 16)) h.0 in
    ltb-true (length acts) (2 ^ 32) (and_parts _ (nat_lt (length acts) (2 ^ 32)) g.0).1

pub returns-clause-clients : goal.returns-clause-clients
returns-clause-clients c entries clients acts administrators is =
    let h = and_parts _ (nat_le (length administrators) (2 ^ 16)) is in
    leb-true (length clients) (2 ^ 16) (and_parts _ (nat_le (length clients) (2 ^ 16)) h.0).1

pub returns-clause-administrators : goal.returns-clause-administrators
returns-clause-administrators c entries clients acts administrators is =
    leb-true (length administrators) (2 ^ 16) (and_parts _ (nat_le (length administrators) (2 ^ 16)) is).1
