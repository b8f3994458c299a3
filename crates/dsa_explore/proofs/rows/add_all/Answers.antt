use Rattle.dsa_explore.proofs.rows.add_all.Goals as goal
use Rattle.std.proofs.Common.{List, arith, map, refl, subst}
use Rattle.std.proofs.lemmas.List.{take_all}
use Rattle.dsa_explore.specs.Rows.{AddsRows}
use Rattle.dsa_explore.specs.declared.found.Found.{Found}
use Rattle.dsa_explore.proofs.Added.{added-more, added-none}

pub loop-row-init : goal.loop-row-init
loop-row-init c = added-none c.args.steps c.args.rows.now.items

pub loop-row-preserved : goal.loop-row-preserved
loop-row-preserved c =
    added-more c.args.steps (λ (row : Found). row.finding) c.args.told.now c.loop-row.row-index _ _
    c.args.rows.now.items c.loop-row.rows.items c.add_finding.new.rows.items c.loop-row-test.true
    c.loop-row.invariant refl c.in_ok-add_finding.ensures

pub returns : goal.returns
returns c =
    subst (λ (l : List Found). AddsRows c.args.steps (map (λ (row : Found). row.finding) l) c.args.rows.now.items
    c.loop-row.rows.items)
    (take_all c.loop-row.row-index c.args.told.now (omega (arith, c.loop-row-test.false))) c.loop-row.invariant
