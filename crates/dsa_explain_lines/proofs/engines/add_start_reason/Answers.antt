use Rattle.dsa_explain_lines.proofs.engines.add_start_reason.Goals as goal
use Rattle.std.proofs.lemmas.Result.{on_ok_weaker}
use Rattle.dsa_explain_lines.proofs.Joining.{behind_two}
use Rattle.std.proofs.Common.{arith}
use Rattle.std.proofs.lemmas.Grind.{common_steps}

pub returns-in-Nothing : goal.returns-in-Nothing
returns-in-Nothing c = rw (c.in-Nothing.is, ← c.from.ensures) c.add_counted.ensures

pub returns-in-Fence : goal.returns-in-Fence
returns-in-Fence c = rw c.in-Fence.is c.add_counted_twice.ensures

pub returns-in_ok-add_failed-in-Failed : goal.returns-in_ok-add_failed-in-Failed
returns-in_ok-add_failed-in-Failed c = rw c.in-Failed.is (on_ok_weaker c.add_count.result
    (λ e. behind_two _ _ _ _ _ _ _ c.in_ok-add_counted-in-Failed.ensures c.in_ok-add_failed-in-Failed.ensures
    (rw c.from-left.ensures at e)) c.add_count.ensures)

pub returns-in_ok-push_str-in-NoBuffers : goal.returns-in_ok-push_str-in-NoBuffers
returns-in_ok-push_str-in-NoBuffers = grind (arith, common_steps)
