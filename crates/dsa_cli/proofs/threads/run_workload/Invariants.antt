use Rattle.dsa_cli.proofs.threads.run_workload.Given as goal

abbrev pub ghosts-run_shared-L-Ledger : goal.ghosts-run_shared-L-Ledger
ghosts-run_shared-L-Ledger g a = record { name = a.blanks; parts = 129 }

abbrev pub ghosts-run_shared-L-Sharing : goal.ghosts-run_shared-L-Sharing
ghosts-run_shared-L-Sharing g a =
    record { caps = a.device.caps; capacity = a.device.capacity; clients = a.load.now.clients }
