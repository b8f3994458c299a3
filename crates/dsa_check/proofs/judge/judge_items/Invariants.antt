use Rattle.dsa_check.proofs.judge.judge_items.Given as goal
use Rattle.std.proofs.Common.{◌≡◌, ◌++◌, map, take}
use Rattle.serde_json.specs.View.{view}
use Rattle.dsa_check.specs.{Findings.{AppendsAll, IsFindingIn}, Judgement.{faults_told, bad_steps}, Places.{IsSpot}}

abbrev pub invariant-loop-i : goal.invariant-loop-i
invariant-loop-i l = record {
  spot : IsSpot l.bytes l.steps.spot;
  faults : faults_told l.findings.items
      ≡ faults_told l.initial.findings.items ++ bad_steps 0 (take l.i (map view l.items));
  told : AppendsAll (IsFindingIn l.bytes (map view l.items)) l.initial.findings.items l.findings.items;
}
