use Rattle.dsa_regs.proofs.checks.check_queue.Goals as goal
use Rattle.std.proofs.Common.{Some, option_map, sym, ap, ◌∙◌}
use Rattle.dsa_regs.{specs.Config.{check_fault, queue_rules}, proofs.Places.{row-map}}

pub returns-in_err-reason : goal.returns-in_err-reason
returns-in_err-reason c =
    let faulted = row-map check_fault (queue_rules c.args.caps.now c.args.groups.now c.args.queue c.args.config.now) in
    let none = sym c.check_queue_reason.ensures ∙ c.in_err-reason.was in
    c.from_residual.ensures ∙ (sym (ap (option_map check_fault) none) ∙ faulted)

pub returns : goal.returns
returns c =
    let faulted = row-map check_fault (queue_rules c.args.caps.now c.args.groups.now c.args.queue c.args.config.now) in
    let found = sym c.check_queue_reason.ensures ∙ c.in_ok-reason.was in
    ap Some c.fault.ensures ∙ (sym (ap (option_map check_fault) found) ∙ faulted)
