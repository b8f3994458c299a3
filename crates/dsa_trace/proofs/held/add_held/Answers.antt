use Rattle.dsa_trace.proofs.held.add_held.Goals as goal
use Rattle.std.proofs.Common.{◌∙◌, ◌++◌, ap}
use Rattle.dsa_trace.specs.Held.{list_lines}
use Rattle.dsa_trace.proofs.Numbers.{below_more}

pub loop-number-preserved : goal.loop-number-preserved
loop-number-preserved g c =
    let lines = list_lines c.args.form c.args.device.now.caps c.args.device.now.state in
    c.in_ok-add_list_lines.ensures ∙ ap (λ text. text ++ lines c.loop-number.number) c.loop-number.invariant
    ∙ below_more lines c.loop-number.number _
