use Rattle.dsa_report_rows.proofs.texts.texts_of_members.Goals as goal
use Rattle.std.proofs.Common.{◌≡◌, ℕ, List, get_or, ap, arith}

pub returns-clause-no_start : goal.returns-clause-no_start
returns-clause-no_start c are =
    let clash : 34 ≡ 123 = ap (λ (l : List ℕ). get_or l 0 0) are.4 in
    absurd (omega (arith, clash))
