use Rattle.dsa_named_lines.proofs.awaited.awaited_names.Given as goal
use Rattle.std.proofs.Common.{◌≡◌, ◌++◌, drop, flat_map}
use Rattle.dsa_admin.specs.Admin.{is_waited_for}
use Rattle.dsa_explain.specs.Held.{awaited_lists, lists_from}

-- the names so far, and those of the lists from here on
abbrev pub invariant-loop-number : goal.invariant-loop-number
invariant-loop-number g l =
    flat_map (λ named. named.1) (awaited_lists l.noted l.device.state)
    ≡ l.names.items ++ flat_map (λ named. named.1)
    (lists_from l.device.state.work.setup.caps (is_waited_for l.noted) l.number (drop l.number l.device.state.work.content))
