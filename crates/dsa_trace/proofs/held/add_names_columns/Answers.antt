use Rattle.dsa_trace.proofs.held.add_names_columns.Goals as goal
use Rattle.std.proofs.Common.{◌∙◌, ◌++◌, ap}
use Rattle.dsa_trace.specs.Held.{list_column}
use Rattle.dsa_trace.proofs.Numbers.{below_more}

pub loop-number-preserved : goal.loop-number-preserved
loop-number-preserved g c =
    let column = list_column c.args.device.now.caps c.args.device.now.state in
    c.in_ok-add_list_column.ensures ∙ ap (λ text. text ++ column c.loop-number.number) c.loop-number.invariant
    ∙ below_more column c.loop-number.number _
