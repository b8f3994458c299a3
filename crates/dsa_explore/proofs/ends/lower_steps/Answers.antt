use Rattle.dsa_explore.proofs.ends.lower_steps.Goals as goal
use Rattle.std.proofs.Common.{◌∙◌, ap, sym, Some, arith}
use Rattle.std.proofs.lemmas.Option.{same_Some}
use Rattle.dsa_explore.specs.declared.found.Ending.{Ending}
use Rattle.dsa_explore.proofs.Endings.{at-place, fewer-set, fewer-same}

pub returns-then-steps-index : goal.returns-then-steps-index
returns-then-steps-index c =
    let es = c.args.endings.now.items in
    let read = at-place es c.args.i c.index.result.now c.requires ∙ ap (λ e. Some e) (sym c.index.ensures) in
    let held = at-place es c.args.i c.index_mut.result.now c.requires ∙ ap (λ e. Some e) (sym c.index_mut.ensures.value) in
    let same = same_Some c.index.result.now c.index_mut.result.now (sym read ∙ held) in
    fewer-set es c.args.i c.args.steps c.index_mut.result.now held
    (omega (arith, c.if-steps-index.true, ap (λ (e : Ending). e.steps) same))

pub returns-else-steps-index : goal.returns-else-steps-index
returns-else-steps-index c =
    fewer-same c.args.endings.now.items c.args.i c.args.steps c.index.result.now
    (at-place c.args.endings.now.items c.args.i c.index.result.now c.requires
    ∙ ap (λ e. Some e) (sym c.index.ensures)) (omega (arith, c.if-steps-index.false))
