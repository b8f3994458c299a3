use Rattle.dsa_explore.proofs.rows.add_finding.Goals as goal
use Rattle.std.proofs.Common.{refl}
use Rattle.dsa_explore.proofs.Added.{added-new}

pub returns : goal.returns
returns c =
    rw (c.in_ok-push.ensures.items)
    (added-new c.args.finding c.args.rows.now.items (record { finding = c.args.finding; steps = c.args.steps }) refl
    (λ row i. c.has_finding.ensures.none c.if-has_finding.false row (rw c.as_slice.ensures.value i)))
