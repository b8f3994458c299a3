use Rattle.dsa_accounts.proofs.laws.open_batches_find_a_free_cell.Goals as goal
use Rattle.dsa_laws.proofs.Histories.{replay-well_formed}
use Rattle.dsa_regs.specs.Caps.{cell_count}
use Rattle.dsa_accounts.proofs.{UnusedCells.{free-cell}, FreeCells.{fetching-room}}

pub returns-clause-room : goal.returns-clause-room
returns-clause-room c = λ caps h s e note r. fetching-room (replay-well_formed caps h s r) e note

pub returns-clause-cell : goal.returns-clause-cell
returns-clause-cell c = λ caps h s e note r is more. free-cell (cell_count caps) s.work.content
    (fetching-room (replay-well_formed caps h s r) e note is more)
