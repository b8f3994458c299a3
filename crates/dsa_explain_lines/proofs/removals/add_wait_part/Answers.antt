use Rattle.dsa_explain_lines.proofs.removals.add_wait_part.Goals as goal
use Rattle.std.proofs.Common.{◌≡◌, ◌∙◌, ◌++◌, sym, string_bytes}
use Rattle.std.proofs.lemmas.Result.{on_ok_weaker}
use Rattle.dsa_explain_lines.specs.Parts.{wait_part}
use Rattle.dsa_explain_lines.proofs.Naming.{wait-told}

pub returns : goal.returns
returns g c =
    let old = string_bytes c.args.text.now in
    let new = string_bytes c.add_lists.new.text in
    on_ok_weaker {Q = new ≡ old ++ wait_part c.args.device.now.state c.args.command.now} c.add_lists.result
    (λ e. wait-told c.args.device.now.state c.args.command.now c.in-Some.reason c.next_name.result c.from.result
    old (string_bytes c.push_str.new.self) (string_bytes c.add_wait_count.new.text) new
    (sym c.wait_reason.ensures ∙ c.in-Some.is) c.next_name.ensures c.in_ok-push_str.ensures.bytes
    c.from.ensures c.in_ok-add_wait_count.ensures e)
    c.add_lists.ensures
