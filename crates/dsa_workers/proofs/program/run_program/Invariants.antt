use Rattle.dsa_workers.proofs.program.run_program.Given as goal

abbrev pub ghosts-run_as-L-Ledger : goal.ghosts-run_as-L-Ledger
ghosts-run_as-L-Ledger g a = record { name = a.blanks; parts = 129 }

abbrev pub ghosts-run_as-L-Sharing : goal.ghosts-run_as-L-Sharing
ghosts-run_as-L-Sharing g a = record { caps = a.device.caps; capacity = a.device.capacity; clients = a.clients }
