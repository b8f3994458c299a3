use Rattle.dsa_explore.specs.contracts.found.FindingPartialEq.TheImpl as finding_eq
use Rattle.dsa_explore.proofs.rows.is_row_of.Goals as goal
use Rattle.std.proofs.Common.{◌≡◌, ◌∙◌, sym}
use Rattle.dsa_explore.proofs.Equal.{same-finding}

pub returns-clause-same : goal.returns-clause-same
returns-clause-same c = λ t.
    let e : c.eq.result ≡ finding_eq.eq-value.it c.args.row.now.finding c.args.finding.now = c.eq.ensures in
    same-finding c.args.row.now.finding c.args.finding.now (sym e ∙ t)
