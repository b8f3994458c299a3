use Rattle.dsa_check.proofs.flaw_rows.flaws_of_lines.Goals as goal
use Rattle.std.proofs.Common.{refl}
use Rattle.dsa_scenario.specs.Worked.{digits_on_literals}
use Rattle.dsa_check.proofs.OneLine.{open_flaw, empty_flaw, byte_flaw}

pub returns : goal.returns
unfolding digits_on_literals
returns c = record {
  text = refl;
  unknown = refl;
  unclosed = open_flaw;
  empty = empty_flaw;
  bytes = byte_flaw;
}
