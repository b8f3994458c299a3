use Rattle.dsa_regs.proofs.groups.missing_reason.Goals as goal
use Rattle.std.proofs.Common.{sym, ◌∙◌, refl}
use Rattle.dsa_regs.{specs.Config.{names_missing}, proofs.Places.{placed-none, placed-at}}

pub returns-in_err-group : goal.returns-in_err-group
returns-in_err-group c =
    rw (placed-none (names_missing c.args.caps.now) c.args.groups.now (sym c.first_missing.ensures ∙ c.in_err-group.was))
    c.from_residual.ensures

pub returns : goal.returns
returns c =
    let here = placed-at (names_missing c.args.caps.now) c.args.groups.now c.in_ok-group.group
    (sym c.first_missing.ensures ∙ c.in_ok-group.was) in
    rw (here.0, here.1, c.count_of-count.ensures, c.missing_name-named.ensures) refl
