use Rattle.dsa_explore.proofs.rows.add_removals.Goals as goal
use Rattle.std.proofs.Common.{◌≡◌, ◌∙◌, List, Option, Some, ap, sym, subst, map, arith}
use Rattle.std.proofs.lemmas.List.{take_all}
use Rattle.dsa_book.specs.declared.fate.FateRow.{FateRow}
use Rattle.dsa_keys.specs.Labels.{labelled_row}
use Rattle.dsa_explore.specs.declared.found.{Ask.{Ask, TheVariants.{Act}}, Finding.{Finding}}
use Rattle.dsa_explore.specs.{Findings.{removal_told, removals_of}, Rows.{AddsRows, labels_of}}
use Rattle.dsa_explore.proofs.Added.{added-row, added-none}

pub loop-end-init : goal.loop-end-init
loop-end-init c = added-none c.args.steps c.args.rows.now.items

pub loop-end-preserved : goal.loop-end-preserved
loop-end-preserved c =
    added-row c.args.steps (removal_told c.in-Some-Act.act) (labels_of c.args.labels.now) c.args.ends.now
    c.loop-end.end-index _ c.removal_told.result c.args.rows.now.items c.loop-end.rows.items
    c.add_finding.new.rows.items c.loop-end-test.true c.loop-end.invariant c.removal_told.ensures
    c.in_ok-add_finding.ensures

pub returns : goal.returns
returns c =
    let labels = labels_of c.args.labels.now in
    let asked : c.args.ask ≡ Some (Act c.in-Some-Act.act)
    = c.in-Some-Act.is ∙ ap Some (rw c.in-Some-Act.is at c.in-Some-Act.field-0-is) in
    let all = take_all c.loop-end.end-index c.args.ends.now (omega (arith, c.loop-end-test.false)) in
    subst (λ (l : List Finding). AddsRows c.args.steps l c.args.rows.now.items c.loop-end.rows.items)
    (ap (λ (rows : List FateRow). map (removal_told c.in-Some-Act.act) (map (labelled_row labels) rows)) all
    ∙ ap (λ (ask : Option Ask). removals_of ask labels c.args.ends.now) (sym asked)) c.loop-end.invariant
