use Rattle.dsa_cells.proofs.fresh.fresh_nodes.Given as goal
use Rattle.std.{proofs.Common.{◌≤◌}, specs.Vec.{vec_capacity}}
use Rattle.dsa_cells.specs.Fresh.{AreFresh}

abbrev pub invariant-loop-cell : goal.invariant-loop-cell
invariant-loop-cell g l = record {
  room : l.cells ≤ vec_capacity l.nodes;
  fresh : AreFresh l.nodes.items l.cells l.list l.cell;
}
