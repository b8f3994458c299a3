use Rattle.dsa_regs.proofs.checks.check_device.Goals as goal
use Rattle.std.proofs.Common.{Some, option_map, sym, ap, ◌∙◌}
use Rattle.dsa_regs.{specs.Config.{check_fault, total_size, groups_rules}, proofs.Places.{row-map}}

pub returns-in_err-reason : goal.returns-in_err-reason
returns-in_err-reason c =
    let faulted = row-map check_fault (groups_rules c.args.caps.now (total_size c.args.queues.now) c.args.groups.now) in
    let none = sym c.check_device_reason.ensures ∙ c.in_err-reason.was in
    c.from_residual.ensures ∙ (sym (ap (option_map check_fault) none) ∙ faulted)

pub returns : goal.returns
returns c =
    let faulted = row-map check_fault (groups_rules c.args.caps.now (total_size c.args.queues.now) c.args.groups.now) in
    let found = sym c.check_device_reason.ensures ∙ c.in_ok-reason.was in
    ap Some c.fault.ensures ∙ (sym (ap (option_map check_fault) found) ∙ faulted)
