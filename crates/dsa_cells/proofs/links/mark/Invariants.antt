use Rattle.dsa_cells.proofs.links.mark.Given as goal
use Rattle.std.proofs.Common.{◌-◌}
use Rattle.dsa_cells.{specs.{Partition.{walk}, Writes.{after_mark}}, proofs.Splicing.{Marking}}

abbrev pub invariant-loop-step : goal.invariant-loop-step
invariant-loop-step l =
    Marking l.nodes (l.fn.header.count - l._step) l.at l.owner (after_mark l.initial.nodes
    (walk l.initial.nodes l.fn.header.count l.fn.header.head) l.owner)
