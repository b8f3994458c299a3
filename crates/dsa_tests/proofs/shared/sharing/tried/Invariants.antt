use Rattle.dsa_tests.proofs.shared.sharing.tried.Given as goal

abbrev pub ghosts-seats_of-L-Ledger : goal.ghosts-seats_of-L-Ledger
ghosts-seats_of-L-Ledger g a = record { name = a.blanks; parts = 129 }

abbrev pub ghosts-seats_of-L-Sharing : goal.ghosts-seats_of-L-Sharing
ghosts-seats_of-L-Sharing g a = record { caps = a.device.caps; capacity = a.device.capacity; clients = a.clients }
