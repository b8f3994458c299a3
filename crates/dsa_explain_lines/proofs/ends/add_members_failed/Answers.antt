use Rattle.dsa_explain_lines.proofs.ends.add_members_failed.Goals as goal
use Rattle.std.proofs.lemmas.Result.{on_ok_weaker}
use Rattle.dsa_explain_lines.proofs.Joining.{behind_two}

pub returns : goal.returns
returns c = on_ok_weaker c.add_first_of.result
    (λ e. behind_two _ _ _ _ _ _ _ c.in_ok-add_counted.ensures c.in_ok-add_status.ensures e) c.add_first_of.ensures
