use Rattle.dsa_tests.proofs.shared.stage.Stage.run_on.Goals as goal
use Rattle.std.proofs.Crossing.{frees as heap}

-- A block goes back as one of the heap does, from any thread.
pub run_threads-requires-frees-A-Allocator : goal.run_threads-requires-frees-A-Allocator
run_threads-requires-frees-A-Allocator g c κs within = record { frees = λ a τ p. heap.frees a.now.inner τ p }
