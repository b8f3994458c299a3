use Rattle.dsa_chrome.proofs.rendering.add_step_threads.Goals as goal
use Rattle.std.proofs.Common.{◌∙◌, ◌+◌, ◌++◌, ℕ, List, ap}
use Rattle.dsa_chrome.specs.Traces.{engine_thread}
use Rattle.dsa_chrome.proofs.Texts.{below_more}

pub loop-engine-preserved : goal.loop-engine-preserved
loop-engine-preserved c =
    let thread : ℕ → List ℕ = λ engine. engine_thread 3 (engine + 1) engine in
    c.in_ok-add_engine.ensures
    ∙ rw c.from.ensures
    (ap (λ text. text ++ thread c.loop-engine.engine) c.loop-engine.invariant
    ∙ below_more thread c.loop-engine.engine _)
