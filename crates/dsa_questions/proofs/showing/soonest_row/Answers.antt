use Rattle.dsa_questions.proofs.showing.soonest_row.Goals as goal
use Rattle.std.proofs.Common.{◌∙◌, sym}
use Rattle.dsa_questions.proofs.Soonest.{soonest-found, soonest-none}

pub returns-clause-found : goal.returns-clause-found
returns-clause-found c =
    soonest-found c.args.conditions.now c.args.rows.now c.in_ok-fewest.field-0 (sym c.fewest.ensures ∙ c.in_ok-fewest.was)
    c.row_with.result c.row_with.ensures

pub returns-clause-none : goal.returns-clause-none
returns-clause-none c =
    soonest-none c.args.conditions.now c.args.rows.now c.in_ok-fewest.field-0 (sym c.fewest.ensures ∙ c.in_ok-fewest.was)
    c.row_with.result c.row_with.ensures
