use Rattle.dsa_accounts.proofs.laws.accepting_queues_find_a_free_cell.Goals as goal
use Rattle.dsa_laws.proofs.Histories.{replay-well_formed}
use Rattle.dsa_regs.specs.Caps.{cell_count}
use Rattle.dsa_accounts.proofs.{UnusedCells.{free-cell}, FreeCells.{accepting-room}}

pub returns-clause-room : goal.returns-clause-room
returns-clause-room c = λ caps h s q portal kind e. accepting-room (replay-well_formed caps h s e) q portal kind

pub returns-clause-cell : goal.returns-clause-cell
returns-clause-cell c = λ caps h s q portal kind e accepts. free-cell (cell_count caps) s.work.content
    (accepting-room (replay-well_formed caps h s e) q portal kind accepts)
