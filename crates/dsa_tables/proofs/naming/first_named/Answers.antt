use Rattle.dsa_tables.proofs.naming.first_named.Goals as goal
use Rattle.std.proofs.Common.{arith, map, string_bytes}
use Rattle.dsa_tables.proofs.Ordered.{first-named, none-more, none-named}

pub loop-row-preserved : goal.loop-row-preserved
loop-row-preserved c =
    none-more (map string_bytes c.args.labels.now) (map string_bytes c.args.acts.now) c.args.rows.now c.args.name.now
    c.loop-row.row-index _ c.loop-row-test.true c.loop-row.invariant
    (c.in_ok-has_name.ensures.other c.if-branch.false)

pub returns-clause-none : goal.returns-clause-none
returns-clause-none c =
    none-named (map string_bytes c.args.labels.now) (map string_bytes c.args.acts.now) c.args.rows.now c.args.name.now
    c.loop-row.row-index (omega (arith, c.loop-row-test.false)) c.loop-row.invariant

pub returns-then-branch-clause-found : goal.returns-then-branch-clause-found
returns-then-branch-clause-found c =
    first-named (map string_bytes c.args.labels.now) (map string_bytes c.args.acts.now) c.args.rows.now c.args.name.now
    c.loop-row.row-index _ c.loop-row-test.true c.loop-row.invariant
    (c.in_ok-has_name.ensures.same c.if-branch.true)
