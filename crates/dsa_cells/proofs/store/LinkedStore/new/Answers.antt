use Rattle.dsa_cells.proofs.store.LinkedStore.new.Goals as goal
use Rattle.std.proofs.Common.{arith}
use Rattle.dsa_cells.proofs.Opening.{sound-fresh, content-fresh}

pub invariant_of-result : goal.invariant_of-result
invariant_of-result g c = record {
  whole = sound-fresh _ _ c.args.cells c.args.lists c.in_ok-nodes.ensures
      c.in_ok-headers.ensures (omega arith) (omega arith);
}

pub returns-clause-empty : goal.returns-clause-empty
returns-clause-empty g c = content-fresh _ _ c.args.cells c.args.lists c.in_ok-nodes.ensures c.in_ok-headers.ensures
