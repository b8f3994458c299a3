use Rattle.dsa_explain_lines.proofs.commands.add_busy.Goals as goal
use Rattle.std.proofs.lemmas.Result.{on_ok_weaker}
use Rattle.dsa_explain_lines.proofs.Joining.{behind}

pub returns : goal.returns
returns c = on_ok_weaker c.add_first.result
    (λ e. behind _ _ _ _ _ c.in_ok-add_count.ensures e) c.add_first.ensures
