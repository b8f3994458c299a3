use Rattle.std.proofs.Common.{◌≡◌, take}
use Rattle.dsa_store.specs.Content.{all_held}
use Rattle.dsa_explore.specs.{Findings.{awaited_among}, Rows.{labels_of}}
use Rattle.dsa_explore.proofs.awaited.awaited_labels.Given as goal

-- those of the lists before were added
abbrev pub invariant-loop-number : goal.invariant-loop-number
invariant-loop-number g l = l.found.items
    ≡ awaited_among (labels_of l.labels) l.device.state.active (all_held (take l.number l.device.state.work.content))
