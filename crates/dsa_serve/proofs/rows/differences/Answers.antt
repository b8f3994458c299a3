use Rattle.dsa_serve.proofs.rows.differences.Goals as goal
use Rattle.std.proofs.Common.{◌≡◌, true, false}

no : ¬ (true ≡ false)
no same = absurd cc

pub returns-clause-closest : goal.returns-clause-closest
returns-clause-closest c = (λ other. absurd (no other), tt)
