use Rattle.dsa_explore.proofs.rows.has_finding.Goals as goal
use Rattle.std.proofs.Common.{arith}
use Rattle.std.proofs.lemmas.List.{take_all}
use Rattle.dsa_explore.proofs.Added.{has-here, none-more}

pub returns-then-is_row_of-clause-found : goal.returns-then-is_row_of-clause-found
returns-then-is_row_of-clause-found c = λ e.
    has-here c.args.rows.now c.loop-row.row-index _ c.args.finding.now c.loop-row-test.true
    (c.is_row_of.ensures.same c.if-is_row_of.true)

pub loop-row-preserved : goal.loop-row-preserved
loop-row-preserved c =
    none-more c.args.rows.now c.loop-row.row-index _ c.args.finding.now c.loop-row-test.true c.loop-row.invariant
    (c.is_row_of.ensures.other c.if-is_row_of.false)

pub returns-clause-none : goal.returns-clause-none
returns-clause-none c = λ e row i same.
    c.loop-row.invariant row
    (rw (take_all c.loop-row.row-index c.args.rows.now (omega (arith, c.loop-row-test.false))) i) same
