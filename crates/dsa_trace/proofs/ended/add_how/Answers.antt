use Rattle.dsa_trace.proofs.ended.add_how.Goals as goal
use Rattle.std.proofs.Common.{string_bytes}
use Rattle.std.proofs.lemmas.Result.{on_ok_weaker}
use Rattle.std.specs.Prelude.{codes}
use Rattle.dsa_trace.specs.Results.{status_member}
use Rattle.dsa_trace.proofs.Adding.{behind}

pub returns-in_ok-push_str-in-Completed : goal.returns-in_ok-push_str-in-Completed
returns-in_ok-push_str-in-Completed c =
    let before = string_bytes c.args.text.now in
    let how = codes ",\"how\":\"completed\"" in
    rw c.in-Completed.is
    (on_ok_weaker c.add_status.result
    (behind before how (status_member c.in-Completed.status) c.in_ok-push_str-in-Completed.ensures.bytes)
    c.add_status.ensures)
