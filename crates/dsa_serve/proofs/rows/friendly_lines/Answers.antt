use Rattle.dsa_serve.proofs.rows.friendly_lines.Goals as goal
use Rattle.std.proofs.Common.{◌≡◌, ◌++◌, codes, refl, arith}
use Rattle.dsa_serve.specs.{Requests.{stuck_text}, Worked.{flaw_of_a_brace}}
use Rattle.dsa_serve.proofs.RowLines.{apart_at}

pub returns-clause-no_fault : goal.returns-clause-no_fault
returns-clause-no_fault c why is = let none = is.0 in absurd cc

pub returns-clause-stuck : goal.returns-clause-stuck
returns-clause-stuck c same =
    let text : codes "not JSON: " ++ flaw_of_a_brace ≡ stuck_text (codes "name") = cc in
    apart_at 2 116 32 (codes "not JSON: " ++ flaw_of_a_brace) (stuck_text (codes "name")) refl refl
    (λ same. omega (arith, same)) text
