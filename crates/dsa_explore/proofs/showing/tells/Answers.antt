use Rattle.dsa_explore.proofs.showing.tells.Goals as goal
use Rattle.dsa_explore.proofs.Scheduled.{told-in, told-out}

pub returns-clause-told : goal.returns-clause-told
returns-clause-told c = λ is.
    told-in 0 _ c.args.finding.now c.new-rows.result.items c.add_findings.new.rows.items c.as_slice.result.now
    c.new-rows.ensures.items c.in_ok-add_findings.ensures c.as_slice.ensures.value (c.has_finding.ensures.found is)

pub returns-clause-other : goal.returns-clause-other
returns-clause-other c = λ is.
    told-out 0 _ c.args.finding.now c.new-rows.result.items c.add_findings.new.rows.items c.as_slice.result.now
    c.in_ok-add_findings.ensures c.as_slice.ensures.value (c.has_finding.ensures.none is)
