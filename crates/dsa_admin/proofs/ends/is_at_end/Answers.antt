use Rattle.dsa_admin.proofs.ends.is_at_end.Goals as goal
use Rattle.std.proofs.Common.{◌∙◌, ◌==◌, ℕ, ap}
use Rattle.dsa_admin.{specs.Admin.{is_waited_for}, proofs.Counting.{held-none}}

pub returns : goal.returns
returns c = λ content counted is.
    ap (λ (n : ℕ). n == 0) (c.count_awaited.ensures content counted is)
    ∙ held-none (is_waited_for c.args.active.now) content
