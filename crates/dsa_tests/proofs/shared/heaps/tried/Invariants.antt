use Rattle.dsa_tests.proofs.shared.heaps.tried.Given as goal

abbrev pub ghosts-filled-L-Ledger : goal.ghosts-filled-L-Ledger
ghosts-filled-L-Ledger g a = record { name = a.blanks; parts = 129 }

abbrev pub ghosts-filled-L-Sharing : goal.ghosts-filled-L-Sharing
ghosts-filled-L-Sharing g a = record { caps = a.device.caps; capacity = a.device.capacity; clients = 2 }
