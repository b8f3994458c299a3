use Rattle.std.proofs.Common.{◌≡◌, ◌<◌, ℕ}
use Rattle.dsa_regs.specs.Config.{group_at}
use Rattle.dsa_conform.proofs.alike.same_groups.Given as goal

-- those before are alike
abbrev pub invariant-loop-group : goal.invariant-loop-group
invariant-loop-group g l =
    (group : ℕ) → group < l.group
    → group_at l.first.state.work.setup.groups group ≡ group_at l.second.state.work.setup.groups group
