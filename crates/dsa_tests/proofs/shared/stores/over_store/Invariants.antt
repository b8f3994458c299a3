use Rattle.dsa_tests.proofs.shared.stores.over_store.Given as goal

abbrev pub ghosts-over_device-L-Ledger : goal.ghosts-over_device-L-Ledger
ghosts-over_device-L-Ledger g a = record { name = a.blanks; parts = 129 }

abbrev pub ghosts-over_device-L-Sharing : goal.ghosts-over_device-L-Sharing
ghosts-over_device-L-Sharing g a = record { caps = a.device.caps; capacity = a.device.capacity; clients = a.clients }
