use Rattle.dsa_statement_rows.proofs.limits.limits_of_tables.Goals as goal
use Rattle.std.proofs.Common.{◌≡◌, ◌<◌, ◌^◌, length, nat_lt, true}
use Rattle.std.proofs.lemmas.Bool.{and_parts, ltb-true}

pub returns : goal.returns
returns c tables are =
    ltb-true (length tables.acts) (2 ^ 32) (and_parts _ (nat_lt (length tables.acts) (2 ^ 32)) are).1
