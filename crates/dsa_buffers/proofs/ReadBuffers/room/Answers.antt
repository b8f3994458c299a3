use Rattle.dsa_buffers.proofs.ReadBuffers.room.Goals as goal
use Rattle.std.proofs.{Common.{◌<◌, length, subst, sym, arith}, lemmas.Grind.{common_steps}}
use Rattle.dsa_buffers.specs.Buffers.{Buffers}
use Rattle.dsa_buffers.proofs.Covering.{covered-low, room-is}

pub overflow_add-spare : goal.overflow_add-spare
overflow_add-spare c =
    let low = covered-low c.self.inside.groups.items c.self.inside.used.items c.args.group in
    grind (arith, common_steps, low, c.self.invariant, c.if-g-len.false)

pub returns-clause-room : goal.returns-clause-room
returns-clause-room c = λ h n.
    let is = room-is _ c.self.inside.covered c.args.group c.self.invariant
    (subst (λ (b : Buffers). c.args.group < length b.groups) (sym c.self.view_is) h) n in
    rw (← c.self.view_is) (grind (
      arith,
      common_steps,
      is,
      c.min.ensures,
      c.max.ensures,
      c.from-g.ensures,
      c.deref.ensures,
      c.deref-2.ensures,
      c.deref-3.ensures,
    ))
