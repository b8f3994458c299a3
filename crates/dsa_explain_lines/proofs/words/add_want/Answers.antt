use Rattle.dsa_explain_lines.proofs.words.add_want.Goals as goal
use Rattle.std.proofs.lemmas.Result.{on_ok_weaker}
use Rattle.dsa_explain_lines.proofs.Joining.{behind_four}

pub returns : goal.returns
returns c = on_ok_weaker c.add_count-2.result
    (λ e. behind_four _ _ _ _ _ _ _ _ _ _ _
    (rw c.from-asked.ensures at c.in_ok-add_count.ensures)
    (rw c.from.ensures at c.in_ok-add_counted.ensures)
    (rw (c.from-used.ensures, c.from-allowed.ensures) at c.in_ok-add_counted_twice.ensures)
    (rw c.from-buffers.ensures at c.in_ok-add_counted_twice-2.ensures)
    (rw c.from-kept.ensures at e)) c.add_count-2.ensures
