use Rattle.dsa_regs.proofs.checks.check_device_reason.Goals as goal
use Rattle.std.proofs.Common.{◌≡◌, Some, true, false, nat_lt, refl, sym, ap, ◌∙◌, arith}
use Rattle.std.proofs.lemmas.Grind.{common_steps}
use Rattle.std.specs.List.{list_any}
use Rattle.dsa_regs.specs.declared.reasons.CheckReason.TheVariants.{GroupWithoutEngine, GroupWithoutQueue}
use Rattle.dsa_regs.specs.Config.{total_size, total_reserved, is_without_engine, is_without_queue}
use Rattle.dsa_regs.specs.Config.{names_missing, is_any_shared, is_allowed_wrong}
use Rattle.dsa_regs.proofs.Places.{off, on, placed-none, placed-at}
use Rattle.dsa_regs.proofs.checks.check_device_reason.Goals.{After-shared_reason, After-outside_reason}
use Rattle.dsa_regs.proofs.checks.check_device_reason.Goals.{After-without_queue}

-- the first two rules are kept
sizes_fit : (c : After-shared_reason) → (list_any (names_missing c.args.caps.now) c.args.groups.now ≡ false)
    × (nat_lt c.args.caps.now.total_size (total_size c.args.queues.now) ≡ false)
sizes_fit c = (off _ _ (sym c.missing_reason.ensures ∙ c.in_default.is), grind (arith, common_steps))

-- and the next two
buffers_fit : (c : After-outside_reason) → (is_any_shared c.args.caps.now c.args.groups.now ≡ false)
    × (nat_lt c.args.caps.now.read_buffers (total_reserved c.args.groups.now) ≡ false)
buffers_fit c = (off _ _ (sym c.shared_reason.ensures ∙ c.in_default-shared_reason.is), grind (arith, common_steps))

-- and two more
groups_fit : (c : After-without_queue)
    → (list_any (is_allowed_wrong c.args.caps.now.read_buffers c.args.groups.now) c.args.groups.now ≡ false)
    × (list_any is_without_engine c.args.groups.now ≡ false)
groups_fit c = (
  off _ _ (sym c.outside_reason.ensures ∙ c.in_default-outside_reason.is),
  placed-none is_without_engine c.args.groups.now (sym c.without_engine.ensures ∙ c.in_default-without_engine.is),
)

pub returns-then-sizes-from : goal.returns-then-sizes-from
returns-then-sizes-from c =
    let t1 = off _ _ (sym c.missing_reason.ensures ∙ c.in_default.is) in
    let t2 : nat_lt c.args.caps.now.total_size (total_size c.args.queues.now) ≡ true = grind (arith, common_steps) in
    rw (t1, t2, c.total_size-sizes.ensures) refl

pub returns-in-Some-shared_reason : goal.returns-in-Some-shared_reason
returns-in-Some-shared_reason c =
    let s = sizes_fit (goal.at.returns-in-Some-shared_reason c).After-shared_reason in
    let told = on _ _ _ (sym c.shared_reason.ensures ∙ c.in-Some-shared_reason.is) in
    rw (s.0, s.1, told.0) (ap Some (sym told.1))

pub returns-then-reserved-from : goal.returns-then-reserved-from
returns-then-reserved-from c =
    let s = sizes_fit (goal.at.returns-then-reserved-from c).After-shared_reason in
    let t3 = off _ _ (sym c.shared_reason.ensures ∙ c.in_default-shared_reason.is) in
    let t4 : nat_lt c.args.caps.now.read_buffers (total_reserved c.args.groups.now) ≡ true = grind (arith, common_steps) in
    rw (s.0, s.1, t3, t4, c.total_reserved-reserved.ensures) refl

pub returns-in-Some-outside_reason : goal.returns-in-Some-outside_reason
returns-in-Some-outside_reason c =
    let s = sizes_fit (goal.at.returns-in-Some-outside_reason c).After-shared_reason in
    let b = buffers_fit (goal.at.returns-in-Some-outside_reason c).After-outside_reason in
    let told = on _ _ _ (sym c.outside_reason.ensures ∙ c.in-Some-outside_reason.is) in
    rw (s.0, s.1, b.0, b.1, told.0) (ap Some (sym told.1))

pub returns-in-Some-without_engine : goal.returns-in-Some-without_engine
returns-in-Some-without_engine c =
    let s = sizes_fit (goal.at.returns-in-Some-without_engine c).After-shared_reason in
    let b = buffers_fit (goal.at.returns-in-Some-without_engine c).After-outside_reason in
    let t5 = off _ _ (sym c.outside_reason.ensures ∙ c.in_default-outside_reason.is) in
    let here = placed-at is_without_engine c.args.groups.now _ (sym c.without_engine.ensures ∙ c.in-Some-without_engine.is) in
    rw (s.0, s.1, b.0, b.1, t5, here.0) (ap (λ g. Some (GroupWithoutEngine g)) (sym here.1))

pub returns-in_err-group : goal.returns-in_err-group
returns-in_err-group c =
    let at = goal.at.returns-in_err-group c in
    let s = sizes_fit at.After-shared_reason in let b = buffers_fit at.After-outside_reason in
    let g = groups_fit at.After-without_queue in
    let none = placed-none is_without_queue c.args.groups.now (sym c.without_queue.ensures ∙ c.in_err-group.was) in
    rw (s.0, s.1, b.0, b.1, g.0, g.1, none) c.from_residual.ensures

pub returns : goal.returns
returns c =
    let at = goal.at.returns c in
    let s = sizes_fit at.After-shared_reason in let b = buffers_fit at.After-outside_reason in
    let g = groups_fit at.After-without_queue in
    let here = placed-at is_without_queue c.args.groups.now _ (sym c.without_queue.ensures ∙ c.in_ok-group.was) in
    rw (s.0, s.1, b.0, b.1, g.0, g.1, here.0) (ap (λ g. Some (GroupWithoutQueue g)) (sym here.1))
