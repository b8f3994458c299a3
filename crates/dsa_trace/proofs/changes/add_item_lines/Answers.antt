use Rattle.dsa_trace.proofs.changes.add_item_lines.Goals as goal
use Rattle.std.proofs.Common.{◌∙◌, ◌++◌, ap}
use Rattle.dsa_trace.specs.Changes.{item_line}
use Rattle.dsa_trace.proofs.Numbers.{below_more}

pub loop-place-preserved : goal.loop-place-preserved
loop-place-preserved g c =
    let line = item_line c.args.device.now.caps c.args.device.now.state c.args.items in
    c.in_ok-add_item_line.ensures ∙ ap (λ text. text ++ line c.loop-place.place) c.loop-place.invariant
    ∙ below_more line c.loop-place.place _
