use Rattle.dsa_check.proofs.checking.CheckRender.render.Goals as goal
use Rattle.std.proofs.Common.{arith}
use Rattle.std.proofs.lemmas.Grind.{common_steps}

pub returns-clause-ok : goal.returns-clause-ok
returns-clause-ok c = record {
  findings = c.in_ok-faults.field-0.faults.items;
  all = c.in_ok-faults.ensures.all;
  judged = c.in_ok-faults.ensures.first;
  told = c.in_ok-faults.ensures.told;
  warnings = c.in_ok-faults.field-0.warnings.items;
  warned = c.in_ok-faults.ensures.warned;
  first = grind (arith, common_steps);
  remarks = c.in_ok-remarks.remarks.items;
  remarked = record { all = grind (arith, common_steps); placed = c.in_ok-remarks.ensures.placed };
  lines = grind (arith, common_steps);
}
