use Rattle.dsa_chrome.proofs.events.add_thread.Goals as goal
use Rattle.std.proofs.Common.{◌∙◌, refl}
use Rattle.std.proofs.lemmas.Result.{on_ok_weaker}

pub returns-in-Engine : goal.returns-in-Engine
returns-in-Engine c =
    rw c.in-Engine.is (on_ok_weaker c.add_number.result (λ added. added ∙ rw c.from.ensures refl) c.add_number.ensures)
