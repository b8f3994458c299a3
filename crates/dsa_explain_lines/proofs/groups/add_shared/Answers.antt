use Rattle.dsa_explain_lines.proofs.groups.add_shared.Goals as goal
use Rattle.std.proofs.lemmas.Result.{on_ok_weaker}
use Rattle.dsa_explain_lines.proofs.Joining.{behind}

pub returns : goal.returns
returns c = on_ok_weaker c.add_two_groups.result (λ e. behind _ _ _ _ _ c.in_ok-add_name.ensures e)
    c.add_two_groups.ensures
