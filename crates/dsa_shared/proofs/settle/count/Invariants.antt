use Rattle.dsa_shared.proofs.settle.count.Given as goal
use Rattle.std.proofs.Common.{◌≡◌, ◌*◌, ◌≤◌, length, take}
use Rattle.dsa_book.specs.Totals.{total_accepted, total_fetched, total_retried, total_done, total_lost}

abbrev pub invariant-loop-step : goal.invariant-loop-step
invariant-loop-step l = record {
  accepted : (l.totals.accepted ≡ total_accepted (take l.step-index l.history)) × (l.totals.accepted ≤ l.step-index);
  fetched : (l.totals.fetched ≡ total_fetched (take l.step-index l.history)) × (l.totals.fetched ≤ l.step-index);
  retried : (l.totals.retried ≡ total_retried (take l.step-index l.history)) × (l.totals.retried ≤ l.step-index);
  done : (l.totals.done ≡ total_done (take l.step-index l.history)) × (l.totals.done ≤ l.step-index);
  lost : (l.totals.lost ≡ total_lost (take l.step-index l.history)) × (l.totals.lost ≤ l.step-index * 4294967296);
  rest : (l.totals.held ≡ l.fn.held) × (l.totals.steps ≡ length l.history);
}
