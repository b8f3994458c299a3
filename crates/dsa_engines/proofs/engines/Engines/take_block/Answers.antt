use Rattle.dsa_engines.proofs.engines.Engines.take_block.Goals as goal
use Rattle.dsa_engines.proofs.engines.Engines.take_block.Goals.{in-Some+else-is_batch, in_default}
use Rattle.std.proofs.Common.{◌∙◌, [], nat_le, refl, sym, arith}
use Rattle.std.proofs.lemmas.Grind.{common_steps}
use Rattle.dsa_book.specs.State.{need_of}
use Rattle.dsa_engines.specs.Engines.{work}
use Rattle.dsa_engines.proofs.TakeReasons.{no-batch, no-drain, one-drain, free-block, drain-block}

pub returns-in_err-drain : goal.returns-in_err-drain
returns-in_err-drain g c = rw c.from_residual.ensures
    (free-block (work c.args.queues.now.setup c.args.self.now (g.S.EntryStore.content c.args.store.now) []) c.args.engine (nat_le (need_of c.args.queues.now.setup c.args.front.now) c.args.room)
    c.args.front.now
    (grind (arith, common_steps, c.if-from-room.false, c.from.ensures, c.need.ensures)) (elim c.match-note.branch [
      | in-Some+else-is_batch w ↦ no-batch (work c.args.queues.now.setup c.args.self.now (g.S.EntryStore.content c.args.store.now) []) c.args.engine c.args.front.now
          (sym w.is_batch.ensures ∙ w.if-is_batch.false)
      | in_default w ↦ rw (sym w.in_default.ensures) refl
    ])
    (no-drain (work c.args.queues.now.setup c.args.self.now (g.S.EntryStore.content c.args.store.now) []) c.args.engine c.args.front.now c.requires.engine (sym c.drain_on.ensures ∙ c.in_err-drain.was)))

pub returns : goal.returns
returns g c =
    drain-block (work c.args.queues.now.setup c.args.self.now (g.S.EntryStore.content c.args.store.now) []) c.args.engine (nat_le (need_of c.args.queues.now.setup c.args.front.now) c.args.room)
    c.args.front.now
    (grind (arith, common_steps, c.if-from-room.false, c.from.ensures, c.need.ensures)) (elim c.match-note.branch [
      | in-Some+else-is_batch w ↦ no-batch (work c.args.queues.now.setup c.args.self.now (g.S.EntryStore.content c.args.store.now) []) c.args.engine c.args.front.now
          (sym w.is_batch.ensures ∙ w.if-is_batch.false)
      | in_default w ↦ rw (sym w.in_default.ensures) refl
    ]) c.in_ok-drain.drain.name
    (one-drain (work c.args.queues.now.setup c.args.self.now (g.S.EntryStore.content c.args.store.now) []) c.args.engine c.args.front.now (c.in_ok-drain.field-0-0, c.in_ok-drain.drain) c.requires.engine
    (sym c.is_drain.ensures ∙ c.if-not-is_drain.false) (sym c.drain_on.ensures ∙ c.in_ok-drain.was))
