use Rattle.dsa_cli.proofs.options.command_line.Goals as goal
use Rattle.std.proofs.{Common.{◌∙◌, ap, ap₂}, lemmas.Result.{IfOk-weaker}}
use Rattle.clap.specs.Simple.{App, with_subcommand}

pub returns : goal.returns
returns c =
    let top = λ (a : App). a.top in
    let one = c.in_ok-subcommand.ensures.shape c.in_ok-check_command.ensures.local
    ∙ ap₂ with_subcommand c.in_ok-top_command.ensures (ap top c.in_ok-check_command.ensures.app) in
    let two = c.in_ok-subcommand-2.ensures.shape c.in_ok-explain_command.ensures.local
    ∙ ap₂ with_subcommand one (ap top c.in_ok-explain_command.ensures.app) in
    let three = c.in_ok-subcommand-3.ensures.shape c.in_ok-trace_command.ensures.local
    ∙ ap₂ with_subcommand two (ap top c.in_ok-trace_command.ensures.app) in
    let four = c.in_ok-subcommand-4.ensures.shape c.plain_command.ensures.local
    ∙ ap₂ with_subcommand three (ap top c.plain_command.ensures.app) in
    let five = c.in_ok-subcommand-5.ensures.shape c.in_ok-draw_command.ensures.local
    ∙ ap₂ with_subcommand four (ap top c.in_ok-draw_command.ensures.app) in
    let six = c.in_ok-subcommand-6.ensures.shape c.in_ok-conform_command.ensures.local
    ∙ ap₂ with_subcommand five (ap top c.in_ok-conform_command.ensures.app) in
    let seven = c.in_ok-subcommand-7.ensures.shape c.plain_command-2.ensures.local
    ∙ ap₂ with_subcommand six (ap top c.plain_command-2.ensures.app) in
    let eight = c.in_ok-subcommand-8.ensures.shape c.in_ok-explore_command.ensures.local
    ∙ ap₂ with_subcommand seven (ap top c.in_ok-explore_command.ensures.app) in
    let nine = c.in_ok-subcommand-9.ensures.shape c.in_ok-serve_command.ensures.local
    ∙ ap₂ with_subcommand eight (ap top c.in_ok-serve_command.ensures.app) in
    IfOk-weaker c.subcommand-10.result _ _ (λ command h. h.shape c.in_ok-threads_command.ensures.local
    ∙ ap₂ with_subcommand nine (ap top c.in_ok-threads_command.ensures.app)) c.subcommand-10.ensures
