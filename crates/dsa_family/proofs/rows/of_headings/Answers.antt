use Rattle.dsa_family.proofs.rows.of_headings.Goals as goal
use Rattle.std.proofs.Common.{arith, refl, ◌∙◌}
use Rattle.std.proofs.lemmas.Fmt.{decimal_digit}

pub returns-clause-bare : goal.returns-clause-bare
returns-clause-bare c text (values, none, is) = is ∙ rw (none, decimal_digit 7 (omega arith))

pub returns-clause-object : goal.returns-clause-object
returns-clause-object c text (values, none, is) = is ∙ rw (none, decimal_digit 7 (omega arith))

pub returns-clause-valued : goal.returns-clause-valued
returns-clause-valued c text (values, (value, rest, told, none, first), is) =
    is ∙ rw (first, none, told.compact refl, decimal_digit 0 (omega arith))
