use Rattle.std.proofs.Common.{◌≡◌, ◌^◌}
use Rattle.dsa_explore.proofs.Tallies.{IsSoFar}
use Rattle.dsa_explore.proofs.sampling.sample.Given as goal

-- the walks of the numbers below were made
abbrev pub invariant-loop-number : goal.invariant-loop-number
invariant-loop-number l = IsSoFar l.plan.caps l.plan.script.now l.plan.setup.now l.walks l.number l.tally
    × ((l.keys.before.line.capacity ≡ 2 ^ 20) × (l.keys.after.line.capacity ≡ 2 ^ 20))
