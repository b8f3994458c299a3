-- Commands that begin while the device and its queues are On, whatever is held.
use Rattle.std.proofs.Common.{[], inl, inr, refl}
use Rattle.dsa_regs.specs.declared.Command.TheVariants.{DisableDevice, DrainAll}
use Rattle.dsa_store.specs.Content.{Content}
use Rattle.dsa_laws.specs.Change.{IsBegun}
use Rattle.dsa_explain_rows.specs.Effects.{state_on}

pub disable_begun : (content : Content) → IsBegun (state_on content []) (record { command = DisableDevice; mark = 9 })
disable_begun content = record {
  deed = inl refl;
  granted = record { idle = refl; queues = refl; phases = refl; check = refl };
  mark = refl;
}

pub drain_begun : (content : Content) → IsBegun (state_on content []) (record { command = DrainAll; mark = 9 })
drain_begun content = record {
  deed = inr refl;
  granted = record { idle = refl; queues = refl; phases = refl; check = refl };
  mark = refl;
}
