use Rattle.dsa_explain_rows.proofs.links.headers_of_other_lists.Goals as goal
use Rattle.std.proofs.Common.{arith, lit≤}

pub returns-clause-another_order : goal.returns-clause-another_order
returns-clause-another_order c are = omega (arith, (are.each 0 (lit≤ tt)).count)
