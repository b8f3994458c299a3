use Rattle.dsa_trace.proofs.errors.add_error_members.Goals as goal
use Rattle.std.proofs.Common.{◌++◌, string_bytes}
use Rattle.std.proofs.lemmas.Result.{on_ok_weaker}
use Rattle.std.specs.Prelude.{codes, decimal}
use Rattle.dsa_event_text.specs.Text.{truth_text}
use Rattle.dsa_scenario.specs.Lines.{cause_text}
use Rattle.dsa_trace.proofs.Adding.{behind}

pub returns : goal.returns
returns c =
    let noted = c.args.noted.now in
    let queue = codes "\"queue\":" ++ decimal noted.queue in
    let cause = codes ",\"cause\":\"" ++ cause_text noted.cause in
    let overflow = codes "\",\"overflow\":" ++ truth_text noted.overflow in
    let before = string_bytes c.args.text.now in
    on_ok_weaker c.add_flag.result
    (behind before (queue ++ cause) overflow
    (behind before queue cause c.in_ok-add_queue.ensures c.in_ok-add_cause.ensures))
    c.add_flag.ensures
