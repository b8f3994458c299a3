use Rattle.std.proofs.Common.{subst}
use Rattle.dsa_device.specs.Running.{Running, IsReplay}
use Rattle.dsa_laws.{specs.{Refusals.{EachHasItsCause}, WellFormed.{IsWellFormed}}, proofs.Refusals.{history-causes}}
use Rattle.dsa_shared.proofs.locked.kept.state_is_replay.Goals as goal

pub returns-clause-replay : goal.returns-clause-replay
returns-clause-replay g c =
    subst IsReplay c.locked.view_is (c.state_is_replay.ensures.replay c.locked.invariant.3)

pub returns-clause-well_formed : goal.returns-clause-well_formed
returns-clause-well_formed g c =
    subst (λ (d : Running). IsWellFormed d.caps d.state) c.locked.view_is
    (c.state_is_replay.ensures.well_formed c.locked.invariant.3)

pub returns-clause-refusals : goal.returns-clause-refusals
returns-clause-refusals g c =
    let d = c.locked.inside.device in
    subst (λ (d : Running). EachHasItsCause d.caps d.history) c.locked.view_is
    (history-causes d.caps d.history d.state (c.state_is_replay.ensures.replay c.locked.invariant.3).replayed)
