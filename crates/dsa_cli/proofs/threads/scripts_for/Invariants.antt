use Rattle.dsa_cli.proofs.threads.scripts_for.Given as goal
use Rattle.std.proofs.Common.{◌≡◌, ℕ, ◌+◌, ◌<◌, get_or, vec_len}
use Rattle.dsa_cli.specs.Threads.{IsClientScript}

abbrev pub invariant-loop-client : goal.invariant-loop-client
invariant-loop-client l = record {
  count : vec_len l.clients ≡ l.client;
  scripts : (c : ℕ) (d : _) → c < l.client → IsClientScript (c + 1) l.load.each (get_or l.clients.items c d);
}
