use Rattle.std.proofs.Common.{◌≡◌, length, take}
use Rattle.dsa_store.specs.Content.{all_held}
use Rattle.dsa_explore.proofs.ends.holds_entries.Given as goal

-- the lists before hold nothing
abbrev pub invariant-loop-number : goal.invariant-loop-number
invariant-loop-number g l = length (all_held (take l.number l.device.state.work.content)) ≡ 0
