use Rattle.dsa_explore.proofs.rows.add_waits.Goals as goal
use Rattle.std.proofs.Common.{◌≡◌, ◌∙◌, List, Option, Some, ap, sym, refl, subst, map, arith}
use Rattle.std.proofs.lemmas.List.{take_all}
use Rattle.dsa_explore.specs.declared.found.{Ask.{Ask, TheVariants.{Act}}, Finding.{Finding, TheVariants.{Wait}}}
use Rattle.dsa_explore.specs.{Findings.{waits_told}, Rows.{AddsRows}}
use Rattle.dsa_explore.proofs.Added.{added-more, added-none}

pub loop-label-init : goal.loop-label-init
loop-label-init c = added-none c.args.steps c.args.rows.now.items

pub loop-label-preserved : goal.loop-label-preserved
loop-label-preserved c =
    added-more c.args.steps (Wait c.in-Some-Act.act) c.args.awaited.now c.loop-label.label-index _ _
    c.args.rows.now.items c.loop-label.rows.items c.add_finding.new.rows.items c.loop-label-test.true
    c.loop-label.invariant refl
    c.in_ok-add_finding.ensures

pub returns : goal.returns
returns c =
    let asked : c.args.ask ≡ Some (Act c.in-Some-Act.act)
    = c.in-Some-Act.is ∙ ap Some (rw c.in-Some-Act.is at c.in-Some-Act.field-0-is) in
    let all = take_all c.loop-label.label-index c.args.awaited.now (omega (arith, c.loop-label-test.false)) in
    subst (λ (l : List Finding). AddsRows c.args.steps l c.args.rows.now.items c.loop-label.rows.items)
    (ap (map (Wait c.in-Some-Act.act)) all
    ∙ ap (λ (ask : Option Ask). waits_told ask c.args.awaited.now) (sym asked)) c.loop-label.invariant
