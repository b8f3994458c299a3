use Rattle.dsa_command_rows.proofs.checks.remarks_of_one_finding.Goals as goal
use Rattle.std.proofs.Common.{◌∙◌, ap, List}
use Rattle.std.specs.Prelude.{map, ◌++◌, [], Some, true}
use Rattle.dsa_check.specs.declared.finding.{Reason.{Reason}}
use Rattle.dsa_check.specs.Remarks.{Said}

pub returns : goal.returns
returns c = record {
  warning = λ finding remarks reasons are.
      ap (λ (l : List Said). map (λ (one : Said). one.0) l) are.all
      ∙ ap (λ (rs : List Reason). map (λ (one : Said). one.0) (map (λ r. (true, finding, Some r)) rs ++ [])) reasons;
}
