use Rattle.dsa_explain.proofs.awaiting.wait_reason.Goals as goal
use Rattle.std.proofs.Common.{sym, ap, ◌∙◌}
use Rattle.std.specs.Prelude.{is_some}
use Rattle.dsa_admin.specs.Command.{issue_reason}
use Rattle.dsa_explain.specs.Wait.{is_waiting}
use Rattle.dsa_explain.proofs.Active.{some-first}

pub returns : goal.returns
returns g c =
    let s = c.args.device.now.state in
    let asked = c.args.command in
    let mark = c.next_name.ensures in
    let first = rw mark at (sym c.first_awaited.ensures ∙ c.in_ok-first.was) in
    rw (c.count_waited-awaited.ensures, mark) (sym (some-first s asked (issue_reason s asked) c.in_ok-first.first
    (c.commands_follow_reasons.ensures s asked)
    (ap is_some (sym c.why_issue.ensures) ∙ sym c.is_some.ensures ∙ c.if-is_some.false)
    (ap is_waiting (sym c.deed.ensures) ∙ sym c.is_waiting.ensures ∙ c.if-not-is_waiting.false) first))
