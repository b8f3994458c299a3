use Rattle.dsa_device.proofs.device.Device.awaited.Goals as goal
use Rattle.std.proofs.Common.{arith, sym, ◌∙◌}
use Rattle.dsa_regs.proofs.CapsLemmas.{cell_count-bound}
use Rattle.dsa_device.proofs.{Known.{cells-are}, Held.{awaited-few}}

pub overflow_cast-result : goal.overflow_cast-result
overflow_cast-result g c =
    let i = c.self.invariant in
    omega (
      arith,
      awaited-few c.self.inside.admin.active (g.S.EntryStore.content c.self.inside.store) c.in_ok-awaited.awaited _
          (sym c.in_ok-awaited.was ∙ c.awaited.ensures (g.S.EntryStore.content c.self.inside.store) i.counted
          i.awaiting)
          (g.met.S.EntryStore.sound c.self.inside.store).room,
      cells-are _ _ _ i.whole,
      cell_count-bound c.self.inside.caps i.whole.past.caps,
    )
