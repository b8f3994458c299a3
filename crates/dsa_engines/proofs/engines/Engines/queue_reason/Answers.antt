use Rattle.dsa_engines.proofs.engines.Engines.queue_reason.Goals as goal
use Rattle.std.proofs.Common.{◌∙◌, Option, Some, sym, ap, arith}
use Rattle.std.specs.Option.{option_map}
use Rattle.dsa_buffers.specs.Buffers.{want_of}
use Rattle.dsa_book.specs.State.{need_of}
use Rattle.dsa_engines.proofs.TakeReasons.{told_of, offered-engine, offered-queue, offered-group, slot-reason, block-reason}

pub front_entry-requires : goal.front_entry-requires
front_entry-requires g c =
    omega (
      arith,
      c.requires.in_step.store.lists,
      offered-queue c.args.engine c.args.queue c.requires.in_step
          (sym c.in_ok-group.was ∙ c.offered_in.ensures c.args.self.now (g.S.EntryStore.content c.args.store.now)),
    )

pub full_slots-requires-clause-engine : goal.full_slots-requires-clause-engine
full_slots-requires-clause-engine g c = offered-engine c.args.engine c.args.queue c.requires.in_step
    (sym c.in_ok-group.was ∙ c.offered_in.ensures c.args.self.now (g.S.EntryStore.content c.args.store.now))

pub returns-in-Some-full_slots : goal.returns-in-Some-full_slots
returns-in-Some-full_slots g c = rw (c.caps-slots.ensures.value) (slot-reason c.args.engine c.args.queue c.requires.in_step
    (sym c.in_ok-group.was ∙ c.offered_in.ensures c.args.self.now (g.S.EntryStore.content c.args.store.now))
    (sym c.front_entry.ensures ∙ c.in-Some.is) c.full_slots.result c.full_slots.ensures c.in-Some-full_slots.is)

pub take_block-requires-clause-engine : goal.take_block-requires-clause-engine
take_block-requires-clause-engine g c = offered-engine c.args.engine c.args.queue c.requires.in_step
    (sym c.in_ok-group.was ∙ c.offered_in.ensures c.args.self.now (g.S.EntryStore.content c.args.store.now))

pub returns-in_err-block : goal.returns-in_err-block
returns-in_err-block g c = rw c.from_residual-in_err-block.ensures
    (ap (option_map (told_of (want_of c.args.self.now.buffers c.in_ok-group.group
    (need_of c.args.queues.now.setup c.in-Some.front))))
    (sym c.in_err-block.was ∙ c.take_block.ensures)
    ∙ block-reason c.args.engine c.args.queue c.requires.in_step
    (sym c.in_ok-group.was ∙ c.offered_in.ensures c.args.self.now (g.S.EntryStore.content c.args.store.now))
    (sym c.front_entry.ensures ∙ c.in-Some.is) c.room.result c.full_slots.result c.full_slots.ensures
    c.in_default-full_slots.is c.room.ensures)

pub want-requires : goal.want-requires
want-requires g c = offered-group c.args.engine c.args.queue c.requires.in_step
    (sym c.in_ok-group.was ∙ c.offered_in.ensures c.args.self.now (g.S.EntryStore.content c.args.store.now))
    (sym c.front_entry.ensures ∙ c.in-Some.is)

pub returns-in-Buffers : goal.returns-in-Buffers
returns-in-Buffers g c =
    rw (c.want.ensures, c.need-need.ensures) (ap (option_map (told_of (want_of c.args.self.now.buffers c.in_ok-group.group
    (need_of c.args.queues.now.setup c.in-Some.front))))
    (sym (c.in_ok-block.was ∙ ap Some c.in-Buffers.is) ∙ c.take_block.ensures)
    ∙ block-reason c.args.engine c.args.queue c.requires.in_step
    (sym c.in_ok-group.was ∙ c.offered_in.ensures c.args.self.now (g.S.EntryStore.content c.args.store.now))
    (sym c.front_entry.ensures ∙ c.in-Some.is) c.room.result c.full_slots.result c.full_slots.ensures
    c.in_default-full_slots.is c.room.ensures)

pub returns-in-Batch : goal.returns-in-Batch
returns-in-Batch g c =
    (ap (option_map (told_of (want_of c.args.self.now.buffers c.in_ok-group.group
    (need_of c.args.queues.now.setup c.in-Some.front))))
    (sym (c.in_ok-block.was ∙ ap Some c.in-Batch.is) ∙ c.take_block.ensures)
    ∙ block-reason c.args.engine c.args.queue c.requires.in_step
    (sym c.in_ok-group.was ∙ c.offered_in.ensures c.args.self.now (g.S.EntryStore.content c.args.store.now))
    (sym c.front_entry.ensures ∙ c.in-Some.is) c.room.result c.full_slots.result c.full_slots.ensures
    c.in_default-full_slots.is c.room.ensures)

pub returns-in-Drain : goal.returns-in-Drain
returns-in-Drain g c =
    (ap (option_map (told_of (want_of c.args.self.now.buffers c.in_ok-group.group
    (need_of c.args.queues.now.setup c.in-Some.front))))
    (sym (c.in_ok-block.was ∙ ap Some c.in-Drain.is) ∙ c.take_block.ensures)
    ∙ block-reason c.args.engine c.args.queue c.requires.in_step
    (sym c.in_ok-group.was ∙ c.offered_in.ensures c.args.self.now (g.S.EntryStore.content c.args.store.now))
    (sym c.front_entry.ensures ∙ c.in-Some.is) c.room.result c.full_slots.result c.full_slots.ensures
    c.in_default-full_slots.is c.room.ensures)
