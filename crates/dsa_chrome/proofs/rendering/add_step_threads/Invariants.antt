use Rattle.dsa_chrome.proofs.rendering.add_step_threads.Given as goal
use Rattle.std.proofs.Common.{◌≡◌, ◌++◌, string_bytes}
use Rattle.dsa_chrome.specs.Traces.{step_threads}

abbrev pub invariant-loop-engine : goal.invariant-loop-engine
invariant-loop-engine l = string_bytes l.text ≡ string_bytes l.initial.text ++ step_threads l.engine
