use Rattle.std.proofs.Common.{◌+◌, ◌≤◌, length, drop}
use Rattle.dsa_keys.specs.Parties.{World}
use Rattle.dsa_parties.specs.Standing.{Standing}
use Rattle.dsa_explore.specs.{Search.{IsFine}, Ready.{HasLabels, HasRoomLeft}, Walked.{space_of, world_of, IsFirst}}
use Rattle.dsa_explore.specs.{Schedules.{IsEventKept}, Ways.{IsWay}}
use Rattle.dsa_explore.proofs.Ways.{IsOnWay}
use Rattle.dsa_explore.proofs.making.walk_kept.Given as goal

-- the steps of the tries so far were made; the world is a fine one on the way, and its device is ready
abbrev pub invariant-loop-tried : goal.invariant-loop-tried
invariant-loop-tried l = IsEventKept l.plan.caps l.plan.script.now l.plan.setup.now l.capacity l.tried-index
    l.kept.steps.items l.kept.walked.value
    × (IsFine (space_of l.plan.caps l.plan.script.now) (world_of l.kept.walked.value)
    × (HasLabels l.kept.walked.value
    × ((l.tried-index ≤ length l.path)
    × (HasRoomLeft (length l.plan.setup.now + l.tried-index) l.capacity l.kept.walked.value
    × (length l.plan.setup.now ≤ l.capacity → (first x : World Standing)
    → IsFirst l.plan.caps l.plan.script.now l.plan.setup.now first
    → IsWay (space_of l.plan.caps l.plan.script.now) first l.path x
    → IsOnWay (space_of l.plan.caps l.plan.script.now) (world_of l.kept.walked.value) (drop l.tried-index l.path) x)))))
