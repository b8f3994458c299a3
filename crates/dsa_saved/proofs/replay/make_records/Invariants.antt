use Rattle.dsa_saved.proofs.replay.make_records.Given as goal
use Rattle.std.proofs.Common.{◌*◌, take}
use Rattle.dsa_saved.specs.Steps.{HaveMade}

abbrev pub invariant-loop-number : goal.invariant-loop-number
invariant-loop-number g l = HaveMade (take (44 * l.number) l.records) l.fn.device l.device
