use Rattle.std.proofs.Common.{◌≡◌, ◌∷◌, take, length}
use Rattle.std.specs.List.{flat_map}
use Rattle.dsa_key_bytes.specs.{Line.{with_numbers}, KeyBytes.{numbers_of_phase}}
use Rattle.dsa_key_bytes.proofs.writing.write_phases.Given as goal

abbrev pub invariant-loop-queue : goal.invariant-loop-queue
invariant-loop-queue g l = let phases = l.device.state.work.setup.phases in
    l.line ≡ with_numbers l.fn.line (length phases ∷ flat_map numbers_of_phase (take l.queue phases))
