use Rattle.dsa_trace.proofs.changes.add_lines_of_lists.Goals as goal
use Rattle.std.proofs.Common.{◌∙◌, ◌++◌, ap}
use Rattle.dsa_trace.specs.Changes.{list_line}
use Rattle.dsa_trace.proofs.Numbers.{below_more}

pub loop-number-preserved : goal.loop-number-preserved
loop-number-preserved g c =
    let line = list_line c.args.device.now.caps c.args.device.now.state in
    c.in_ok-add_list_line.ensures ∙ ap (λ text. text ++ line c.loop-number.number) c.loop-number.invariant
    ∙ below_more line c.loop-number.number _
