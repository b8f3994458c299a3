use Rattle.dsa_scenario.proofs.rows.a_run.Goals as goal
use Rattle.std.{proofs.Common.{refl}, specs.Fmt.{digits}}
use Rattle.dsa_scenario.specs.Worked.{records_of_a_run}

pub returns : goal.returns
unfolding digits
returns c = record {
  records = records_of_a_run;
  last = _;
  events = (refl, (refl, (refl, (refl, (refl, (refl, (refl, (refl, (refl, tt)))))))));
  run = refl;
  replayed = refl;
  rendered = refl;
}
