use Rattle.dsa_explain_lines.proofs.commands.add_active.Goals as goal
use Rattle.std.proofs.Common.{◌≡◌, ◌++◌, string_bytes}
use Rattle.std.proofs.lemmas.Result.{on_ok_weaker}
use Rattle.dsa_explain_lines.specs.Sentences.{active_words}
use Rattle.dsa_explain_lines.proofs.Naming.{over-told}

pub returns-then-awaited-eq0 : goal.returns-then-awaited-eq0
returns-then-awaited-eq0 c =
    let old = string_bytes c.args.text.now in
    let new = string_bytes c.add_ended.new.text in
    on_ok_weaker {Q = new ≡ old ++ active_words c.args.active.now c.args.awaited c.args.first.now} c.add_ended.result
    (λ e. over-told c.args.active.now c.args.awaited c.args.first.now old (string_bytes c.add_command.new.text) new
    c.if-awaited-eq0.true c.in_ok-add_command.ensures e)
    c.add_ended.ensures
