use Rattle.dsa_saved.proofs.saving.push_records.Given as goal
use Rattle.std.proofs.Common.{◌≡◌, ◌++◌, take}
use Rattle.std.specs.List.{All, flat_map}
use Rattle.dsa_saved.specs.{Format.{record_of}, Said.{IsStepRead}}

abbrev pub invariant-loop-step : goal.invariant-loop-step
invariant-loop-step l = record {
  bytes : l.bytes.items ≡ l.fn.bytes.items ++ flat_map record_of (take l.step-index l.history);
  read : All IsStepRead (take l.step-index l.history);
}
