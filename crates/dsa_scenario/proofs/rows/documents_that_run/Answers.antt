use Rattle.dsa_scenario.proofs.rows.documents_that_run.Goals as goal
use Rattle.std.proofs.Common.{[], codes, refl, lit≤}
use Rattle.serde_json.proofs.OnLiterals.{serde_json_on_literals}
use Rattle.dsa_scenario.specs.Worked.{smallest_caps, stepless_text}
use Rattle.dsa_scenario.proofs.Heads.{document_by}

pub returns : goal.returns
unfolding serde_json_on_literals
returns c = record {
  no_steps = let text = stepless_text (codes "1048576") in record {
    caps = smallest_caps;
    capacity = _;
    actions = [];
    document = document_by text _ smallest_caps _ _ [] (text, (refl, refl)) refl refl refl;
    opening = record { good = refl; small = lit≤ tt };
    lines_of_run = record { records = []; last = _; events = tt; run = refl; replayed = refl; rendered = refl };
  };
}
