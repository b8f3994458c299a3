use Rattle.dsa_engines.proofs.engines.Engines.open_group.Goals as goal
use Rattle.std.proofs.Common.{◌∙◌, sym}
use Rattle.dsa_engines.proofs.{Homes.{has-engine}, Dispatching.{no-home, open-home}, TakeReasons.{slot-left}}

pub returns-clause-none : goal.returns-clause-none
returns-clause-none g c = no-home c.requires.in_step (has-engine c.caps-caps.ensures.value c.if-engine-caps.false)
    c.home.ensures

pub returns-clause-some : goal.returns-clause-some
returns-clause-some g c =
    open-home c.requires.in_step (has-engine c.caps-caps.ensures.value c.if-engine-caps.false) c.home.ensures
    (slot-left _ _ c.full_slots.result c.full_slots.ensures (sym c.is_some.ensures ∙ c.if-is_some.false))
