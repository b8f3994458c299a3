use Rattle.dsa_c.proofs.removed.count_removed.Given as goal
use Rattle.std.proofs.Common.{◌≡◌, take}
use Rattle.dsa_regs.specs.Command.{scope_of}
use Rattle.dsa_store.specs.Content.{count_where}
use Rattle.dsa_book.specs.Commands.{is_in_scope}
use Rattle.dsa_c.specs.Reasons.{in_32_bits}

-- those of the lists before are counted
abbrev pub invariant-loop-number : goal.invariant-loop-number
invariant-loop-number g l =
    l.count ≡ in_32_bits (count_where (is_in_scope (scope_of l.command)) (take l.number l.device.state.work.content))
