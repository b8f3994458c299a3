use Rattle.dsa_measure.proofs.rounds.run.Given as goal

abbrev pub ghosts-share-L-Ledger : goal.ghosts-share-L-Ledger
ghosts-share-L-Ledger g a = record { name = a.blanks; parts = 129 }

abbrev pub ghosts-share-L-Sharing : goal.ghosts-share-L-Sharing
ghosts-share-L-Sharing g a = record { caps = a.device.caps; capacity = a.device.capacity; clients = 1 }
