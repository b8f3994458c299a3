use Rattle.dsa_explain.proofs.held.aborted_at.Given as goal
use Rattle.std.proofs.Common.{◌≡◌, filter, drop}
use Rattle.std.specs.List.{slice_get}
use Rattle.dsa_regs.specs.Command.{scope_of}
use Rattle.dsa_book.specs.Commands.{is_in_scope}
use Rattle.dsa_explain.specs.{declared.held.ListedEntry.{ListedEntry}, Held.{held_from, aborted_entries}}

-- the lists before have as many fewer as were passed over
abbrev pub invariant-loop-number : goal.invariant-loop-number
invariant-loop-number g l =
    slice_get (aborted_entries l.device.state l.command) l.index
    ≡ slice_get (filter (λ (h : ListedEntry). is_in_scope (scope_of l.command) h.entry)
    (held_from l.device.state.work.setup.caps l.number (drop l.number l.device.state.work.content))) l.left
