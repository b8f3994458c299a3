use Rattle.dsa_chrome.proofs.rendering.add_head.Goals as goal
use Rattle.std.proofs.Common.{◌∙◌, append_assoc}
use Rattle.std.proofs.lemmas.Result.{on_ok_weaker}

pub returns : goal.returns
returns c = on_ok_weaker c.add_step_threads.result
    (λ added. added
    ∙ rw (
      c.in_ok-add_thread-2.ensures,
      c.in_ok-add_thread.ensures,
      c.in_ok-add_process-2.ensures,
      c.in_ok-add_process.ensures,
      c.in_ok-add_text-2.ensures,
      c.in_ok-add_text.ensures,
    ) (simp append_assoc))
    c.add_step_threads.ensures
