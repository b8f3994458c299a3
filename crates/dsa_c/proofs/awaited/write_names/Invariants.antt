use Rattle.dsa_c.proofs.awaited.write_names.Given as goal
use Rattle.std.proofs.Common.{◌≡◌, drop}
use Rattle.dsa_admin.specs.Admin.{is_waited_for}
use Rattle.dsa_explain.specs.Held.{lists_from}
use Rattle.dsa_c.specs.{Buffers.{with_items_from}, Why.{names_of_wait}}
use Rattle.dsa_c.proofs.Naming.{names_in}

-- the names of the lists from here on belong behind those that are written
abbrev pub invariant-loop-number : goal.invariant-loop-number
invariant-loop-number g l = with_items_from 0 (names_of_wait l.device.state l.noted) l.initial.names
    ≡ with_items_from l.place (names_in (lists_from l.device.state.work.setup.caps (is_waited_for l.noted) l.number
    (drop l.number l.device.state.work.content))) l.names
