use Rattle.dsa_regs.proofs.groups.outside_reason.Goals as goal
use Rattle.std.proofs.Common.{◌-◌, sym, ◌∙◌, refl}
use Rattle.dsa_base.proofs.FirstPlaces.{hit-at}
use Rattle.dsa_regs.specs.Config.{is_allowed_wrong, is_allowed_outside, broken_bound, group_at, zero_group}
use Rattle.dsa_regs.proofs.Places.{placed-none, placed-at, none-some, on}

pub returns-in_err-group : goal.returns-in_err-group
returns-in_err-group c =
    rw (placed-none (is_allowed_wrong c.args.read_buffers c.args.groups.now) c.args.groups.now
    (sym c.first_outside.ensures ∙ c.in_err-group.was)) c.from_residual.ensures

pub returns-in_err-bound : goal.returns-in_err-bound
returns-in_err-bound c =
    let hit = hit-at (is_allowed_wrong c.args.read_buffers c.args.groups.now) c.args.groups.now zero_group
    c.in_ok-group.group (sym c.first_outside.ensures ∙ c.in_ok-group.was) in
    none-some c.bound_of.result c.in_err-bound.was (c.bound_of.ensures.broken ∙ (rw c.requires hit.1))

pub returns : goal.returns
returns c =
    let here = placed-at (is_allowed_wrong c.args.read_buffers c.args.groups.now) c.args.groups.now
    c.in_ok-group.group (sym c.first_outside.ensures ∙ c.in_ok-group.was) in
    let group = group_at c.args.groups.now c.in_ok-group.group in
    let left = c.args.read_buffers - (c.args.reserved - group.reserved) in
    let bound = (on (is_allowed_outside left group) (broken_bound left group) c.in_ok-bound.bound
    (sym c.bound_of.ensures.bound ∙ c.in_ok-bound.was)).1 in
    rw (here.0, here.1, ← bound, c.requires) refl
