use Rattle.dsa_named_trace.proofs.shown.held_names.Goals as goal
use Rattle.std.proofs.Common.{◌∙◌, ◌++◌, [], ap}
use Rattle.dsa_trace.proofs.Numbers.{below_more}
use Rattle.dsa_named_trace.specs.Shown.{names_in_list}

pub loop-number-preserved : goal.loop-number-preserved
loop-number-preserved g c =
    let here = names_in_list c.args.device.now.state in
    c.in_ok-add_names_in_list.ensures ∙ ap (λ names. names ++ here c.loop-number.number) c.loop-number.invariant
    ∙ below_more here c.loop-number.number []
