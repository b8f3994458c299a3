use Rattle.dsa_device.proofs.device.Device.list_with.Goals as goal
use Rattle.std.proofs.Common.{Some, ap, ◌∙◌}
use Rattle.dsa_regs.specs.{declared.Caps.{Caps}, Caps.{list_use}}
use Rattle.dsa_device.proofs.Known.{lawful}

pub returns : goal.returns
returns g c = rw (← c.self.view_is, ← c.in_ok-list.ensures) (ap Some (c.list_use.ensures.use_of
    ∙ ap (λ (caps : Caps). list_use caps c.in_ok-list.list.0)
    (lawful _ c.self.invariant.whole.past).shape.same_caps))
