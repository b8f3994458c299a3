use Rattle.dsa_device.proofs.device.Device.list.Goals as goal
use Rattle.std.proofs.Common.{◌∙◌, sym, ap, subst}
use Rattle.dsa_regs.specs.{declared.Caps.{Caps}, Caps.{HasList, list_number}}
use Rattle.dsa_device.specs.Running.{Running}
use Rattle.dsa_device.proofs.Known.{lawful, has-list}

pub list-requires : goal.list-requires
list-requires g c =
    subst (λ (caps : Caps). HasList caps c.args.list)
    (sym (lawful _ c.self.invariant.whole.past).shape.same_caps)
    (subst (λ (d : Running). HasList d.caps c.args.list) (sym c.self.view_is) c.requires)

pub returns-clause-number : goal.returns-clause-number
returns-clause-number g c = rw (← c.self.view_is) (c.list.ensures ∙ ap (λ (caps : Caps). list_number caps c.args.list)
    (lawful _ c.self.invariant.whole.past).shape.same_caps)

pub returns-clause-within : goal.returns-clause-within
returns-clause-within g c =
    let has : HasList c.self.inside.caps c.args.list =
    subst (λ (d : Running). HasList d.caps c.args.list) (sym c.self.view_is) c.requires in
    rw (← c.self.view_is, c.list.ensures, (lawful _ c.self.invariant.whole.past).shape.same_caps)
    (has-list _ _ _ c.args.list c.self.invariant.whole has)

pub returns-clause-caps : goal.returns-clause-caps
returns-clause-caps g c = rw (← c.self.view_is) ((lawful _ c.self.invariant.whole.past).shape.same_caps)
