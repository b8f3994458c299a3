use Rattle.dsa_explain.proofs.awaiting.awaited_entry.Goals as goal
use Rattle.std.proofs.Common.{sym, ◌∙◌}
use Rattle.dsa_explain.{specs.Held.{all_entries}, proofs.Late.{none-awaited}}

pub returns-in_err-active_command : goal.returns-in_err-active_command
returns-in_err-active_command g c =
    let none = sym c.active_command.ensures ∙ c.in_err-active_command.was in
    rw (c.from_residual.ensures, none) (sym (none-awaited (all_entries c.args.device.now.state)))
