use Rattle.dsa_check.proofs.warnings.warn_of_items.Given as goal
use Rattle.std.proofs.Common.{◌≡◌, ◌++◌, map, option_map, take}
use Rattle.json.specs.Value.{value_view}
use Rattle.serde_json.specs.View.{view}
use Rattle.dsa_check.specs.{Findings.{AppendsAll}, Places.{IsSpot}}
use Rattle.dsa_check.specs.Warnings.{IsOfItem, warnings_told, step_warnings}

abbrev pub invariant-loop-i : goal.invariant-loop-i
invariant-loop-i l = record {
  spot : IsSpot l.bytes l.steps.spot;
  all : warnings_told l.warnings.items
      ≡ warnings_told l.initial.warnings.items ++ step_warnings (option_map (λ v. value_view v.now) l.written) 0 (take l.i (map view l.items));
  placed : AppendsAll (IsOfItem l.bytes (map view l.items)) l.initial.warnings.items l.warnings.items;
}
