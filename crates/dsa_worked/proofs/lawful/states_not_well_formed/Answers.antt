use Rattle.dsa_worked.proofs.lawful.states_not_well_formed.Goals as goal
use Rattle.std.proofs.Common.{arith, inl, lit≤, refl}
use Rattle.dsa_store.specs.Content.{use_count, place_count}
use Rattle.dsa_worked.specs.Lawful.{in_queue}

pub returns-clause-cells : goal.returns-clause-cells
unfolding use_count place_count
returns-clause-cells c is = omega (arith, is.cells.once (record { 0 = 0 }))

pub returns-clause-names : goal.returns-clause-names
returns-clause-names c is = omega (arith, is.names.given 0 (lit≤ tt))

pub returns-clause-set_up : goal.returns-clause-set_up
returns-clause-set_up c is = grind (arith, is.setup.on 0 refl)

pub returns-clause-entries : goal.returns-clause-entries
returns-clause-entries c is = grind (arith, (is.entries.placed 0 _ (inl refl)).waiting (lit≤ tt))

pub returns-clause-rising : goal.returns-clause-rising
returns-clause-rising c is = omega (arith, is.rising 0 (lit≤ tt) 0 1 (in_queue 0 1) (lit≤ tt) (lit≤ tt))

pub returns-clause-limits : goal.returns-clause-limits
returns-clause-limits c is = omega (arith, is.limits.queues 0 (lit≤ tt))

pub returns-clause-buffers : goal.returns-clause-buffers
returns-clause-buffers c is = omega (arith, is.buffers.allowed refl 0 (lit≤ tt))

pub returns-clause-engines : goal.returns-clause-engines
returns-clause-engines c is = omega (arith, (is.engines 0).one_batch)

pub returns-clause-notes : goal.returns-clause-notes
returns-clause-notes c is = omega (arith, (is.notes 0).fetched)

pub returns-clause-order : goal.returns-clause-order
returns-clause-order c is = grind (arith, is.order 0)
