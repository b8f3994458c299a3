use Rattle.dsa_cells.proofs.store.LinkedStore.each_cell_stands_once.Goals as goal
use Rattle.dsa_cells.specs.Owners.{is_partition}

pub returns-clause-once : goal.returns-clause-once
returns-clause-once g c = is_partition _ _ _ c.args.self.now.whole.store
