use Rattle.dsa_device.proofs.device.Device.used.Goals as goal
use Rattle.dsa_device.proofs.Known.{not_off, used-off, used-on, groups-on}

pub used-requires : goal.used-requires
used-requires g c = groups-on _ _ _ c.args.group c.self.invariant.whole c.if-group-self.false
    (rw (← c.device.ensures) (not_off _ c.in_default.not-Off))

pub returns-in-Off : goal.returns-in-Off
returns-in-Off g c = rw (← c.self.view_is) (used-off _ _ _ c.args.group c.self.invariant.whole c.if-group-self.false
    (rw (← c.device.ensures, c.in-Off.is)))

pub returns-in_default : goal.returns-in_default
returns-in_default g c = rw (← c.self.view_is) (used-on _ _ _ _ c.args.group c.self.invariant.whole
    c.if-group-self.false (rw (← c.device.ensures) (not_off _ c.in_default.not-Off)) c.used.ensures)
