use Rattle.dsa_check.proofs.syntax.wanted_at.Goals as goal
use Rattle.std.proofs.Common.{sym, ◌∙◌}
use Rattle.dsa_check.proofs.Allowed.{quote_allowed}

pub returns-in-Some-eq39-clause-allowed : goal.returns-in-Some-eq39-clause-allowed
returns-in-Some-eq39-clause-allowed c is =
    quote_allowed c.args.before.now c.args.wanted (sym c.takes_text.ensures ∙ c.if-takes_text.true) is
