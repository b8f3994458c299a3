use Rattle.dsa_trace.proofs.rendering.TraceRenderSteps.add_step.Goals as goal
use Rattle.std.proofs.Common.{string_bytes}
use Rattle.std.proofs.lemmas.Result.{on_ok_weaker}
use Rattle.dsa_trace.proofs.Snapshots.{step_more}

pub returns : goal.returns
returns g c =
    let made = c.args.step.now in
    on_ok_weaker c.add_step.result
    (λ added steps before told was.
    step_more c.args.self.now (string_bytes c.args.page.now) (string_bytes c.add_step.new.text) made.told.now steps
    made.number before made.entry.now made.device.now added was told)
    c.add_step.ensures
