use Rattle.dsa_device.proofs.device.Device.state_is_replay.Goals as goal
use Rattle.std.proofs.Common.{◌∙◌, ap}
use Rattle.dsa_device.specs.Running.{Running}
use Rattle.dsa_device.proofs.{Known.{well_formed, lawful}, Anew.{replay_of}}

pub returns-clause-replay : goal.returns-clause-replay
returns-clause-replay g c first = rw (← c.self.view_is)
    (replay_of _ c.self.invariant.whole.past (ap (λ (d : Running). d.anew) c.self.view_is ∙ first))

pub returns-clause-well_formed : goal.returns-clause-well_formed
returns-clause-well_formed g c first = well_formed _ (returns-clause-replay g c first)

pub returns-clause-past : goal.returns-clause-past
returns-clause-past g c = rw (← c.self.view_is) c.self.invariant.whole.past

pub returns-clause-lawful : goal.returns-clause-lawful
returns-clause-lawful g c = rw (← c.self.view_is) (record {
  forgotten = c.self.invariant.whole.past.forgotten;
  well_formed = lawful _ c.self.invariant.whole.past;
})
