use Rattle.dsa_trace.proofs.columns.add_items.Goals as goal
use Rattle.std.proofs.Common.{◌∙◌, ◌++◌, ap, arith}
use Rattle.dsa_trace.specs.Columns.{item_text}
use Rattle.dsa_trace.proofs.Numbers.{below_more}
use Rattle.std.proofs.lemmas.Grind.{common_steps}

pub loop-place-preserved : goal.loop-place-preserved
loop-place-preserved g c =
    let line = item_text c.args.form c.args.device.now.caps c.args.device.now.state c.args.items in
    c.in_ok-add_item.ensures ∙ ap (λ text. text ++ line c.loop-place.place) c.loop-place.invariant
    ∙ below_more line c.loop-place.place _

pub returns : goal.returns
returns = grind (arith, common_steps)
