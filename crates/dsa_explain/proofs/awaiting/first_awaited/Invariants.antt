use Rattle.dsa_explain.proofs.awaiting.first_awaited.Given as goal
use Rattle.std.proofs.Common.{◌≡◌, find, drop, Some}
use Rattle.dsa_admin.specs.Admin.{is_waited_for}
use Rattle.dsa_explain.specs.declared.held.ListedEntry.{ListedEntry}
use Rattle.dsa_explain.specs.Held.{held_from, first_awaited}

-- none of the lists before has one
abbrev pub invariant-loop-number : goal.invariant-loop-number
invariant-loop-number g l =
    first_awaited (Some l.noted) l.device.state
    ≡ find (λ (h : ListedEntry). is_waited_for l.noted h.entry)
    (held_from l.device.state.work.setup.caps l.number (drop l.number l.device.state.work.content))
