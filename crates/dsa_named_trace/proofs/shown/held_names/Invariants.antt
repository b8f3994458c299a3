use Rattle.dsa_named_trace.proofs.shown.held_names.Given as goal
use Rattle.std.proofs.Common.{◌≡◌, flat_map}
use Rattle.dsa_base.specs.Numbers.{numbers_below}
use Rattle.dsa_named_trace.specs.Shown.{names_in_list}

abbrev pub invariant-loop-number : goal.invariant-loop-number
invariant-loop-number g l =
    l.names.items ≡ flat_map (names_in_list l.device.state) (numbers_below l.number)
