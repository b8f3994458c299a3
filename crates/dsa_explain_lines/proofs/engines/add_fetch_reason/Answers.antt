use Rattle.dsa_explain_lines.proofs.engines.add_fetch_reason.Goals as goal
use Rattle.std.proofs.lemmas.Result.{on_ok_weaker}
use Rattle.dsa_explain_lines.proofs.Joining.{behind}

pub returns-in_ok-add_fetched-in-AllFetched : goal.returns-in_ok-add_fetched-in-AllFetched
returns-in_ok-add_fetched-in-AllFetched c = rw c.in-AllFetched.is (on_ok_weaker c.add_closed.result
    (λ e. behind _ _ _ _ _ c.in_ok-add_fetched-in-AllFetched.ensures e) c.add_closed.ensures)
