use Rattle.std.proofs.Common.{◌≡◌, ◌<◌, ℕ, Some, true}
use Rattle.dsa_base.specs.Lists.{In}
use Rattle.dsa_scenario.specs.declared.run.Record.{Record}
use Rattle.dsa_conform.specs.{Allowed.{offer}, Seen.{seen_as, shows}}
use Rattle.dsa_conform.proofs.offering.shown_queues.Given as goal

-- those before that show what was seen were found, and no others
abbrev pub invariant-loop-queue : goal.invariant-loop-queue
invariant-loop-queue g l =
    ((q : ℕ) → (entry : Record) → q < l.queue → offer l.device.state.work l.engine q ≡ Some entry
    → shows (seen_as l.seen) entry ≡ true → In q l.found.items)
    × ((q : ℕ) → In q l.found.items → (entry : Record) × (offer l.device.state.work l.engine q ≡ Some entry)
    × (shows (seen_as l.seen) entry ≡ true))
