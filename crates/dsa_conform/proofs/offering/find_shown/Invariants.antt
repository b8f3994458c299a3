use Rattle.dsa_conform.proofs.offering.find_shown.Given as goal
use Rattle.std.proofs.Common.{◌≡◌, ◌<◌, ℕ, false, Some}
use Rattle.dsa_scenario.specs.declared.run.Record.{Record}
use Rattle.dsa_conform.specs.{Allowed.{offer}, Seen.{seen_as, shows}}

-- no offer of a queue before shows what was seen
abbrev pub invariant-loop-queue : goal.invariant-loop-queue
invariant-loop-queue g l = (q : ℕ) → (entry : Record) → q < l.queue → offer l.device.state.work l.engine q ≡ Some entry
    → shows (seen_as l.seen) entry ≡ false
