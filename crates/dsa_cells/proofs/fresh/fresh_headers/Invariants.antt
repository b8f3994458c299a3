use Rattle.dsa_cells.proofs.fresh.fresh_headers.Given as goal
use Rattle.std.{proofs.Common.{◌≡◌, ◌+◌, ◌≤◌, replicate}, specs.Vec.{vec_capacity}}
use Rattle.dsa_cells.specs.Array.{no_header}

abbrev pub invariant-loop : goal.invariant-loop
invariant-loop g l = record {
  room : l.lists + 1 ≤ vec_capacity l.headers;
  empty : l.headers.items ≡ replicate l.counter no_header;
}
