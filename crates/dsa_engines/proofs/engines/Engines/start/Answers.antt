use Rattle.dsa_engines.specs.declared.starting.StartBlock.TheVariants as block
use Rattle.dsa_engines.proofs.engines.Engines.start.Goals as goal
use Rattle.std.proofs.Common.{refl}
use Rattle.dsa_engines.specs.Engines.{work}
use Rattle.dsa_engines.proofs.Members.{in_step-abandoned, in_step-started, started-counted, start-done}
use Rattle.dsa_engines.proofs.StartReasons.{start-refused_with, fails-with, abandoned}

pub returns-in-Err-Nothing-clause-step : goal.returns-in-Err-Nothing-clause-step
returns-in-Err-Nothing-clause-step g c =
    start-refused_with (work c.args.queues.now.setup c.args.self.now (g.S.EntryStore.content c.args.store.now)
    c.args.book.now.fates) c.args.self.now.buffers c.args.engine c.in-Err-Nothing.field-0 block.Nothing
    (c.in-Err-Nothing.ensures.reason c.args.book.now.fates) c.in-Err-Nothing.field-0-is

pub returns-in-Err-Fence-clause-step : goal.returns-in-Err-Fence-clause-step
returns-in-Err-Fence-clause-step g c =
    start-refused_with (work c.args.queues.now.setup c.args.self.now (g.S.EntryStore.content c.args.store.now)
    c.args.book.now.fates) c.args.self.now.buffers c.args.engine c.in-Err-Fence.field-0 (block.Fence c.in-Err-Fence.field-0-0)
    (c.in-Err-Fence.ensures.reason c.args.book.now.fates) c.in-Err-Fence.field-0-is

pub returns-in-Err-Buffers-clause-step : goal.returns-in-Err-Buffers-clause-step
returns-in-Err-Buffers-clause-step g c =
    start-refused_with (work c.args.queues.now.setup c.args.self.now (g.S.EntryStore.content c.args.store.now)
    c.args.book.now.fates) c.args.self.now.buffers c.args.engine c.in-Err-Buffers.field-0 (block.Buffers c.in-Err-Buffers.field-0-0 c.in-Err-Buffers.field-0-1)
    (c.in-Err-Buffers.ensures.reason c.args.book.now.fates) c.in-Err-Buffers.field-0-is

pub returns-in-Err-NoGroup-clause-step : goal.returns-in-Err-NoGroup-clause-step
returns-in-Err-NoGroup-clause-step g c =
    start-refused_with (work c.args.queues.now.setup c.args.self.now (g.S.EntryStore.content c.args.store.now)
    c.args.book.now.fates) c.args.self.now.buffers c.args.engine c.in-Err-NoGroup.field-0 block.NoGroup
    (c.in-Err-NoGroup.ensures.reason c.args.book.now.fates) c.in-Err-NoGroup.field-0-is

pub abandon-requires-clause-engine : goal.abandon-requires-clause-engine
abandon-requires-clause-engine g c = (fails-with c.args.queues.now.setup c.args.self.now (g.S.EntryStore.content c.args.store.now)
    c.args.engine c.in-Err-Failed.field-0 c.in-Err-Failed.field-0-0 c.in-Err-Failed.field-0-1
    c.in-Err-Failed.ensures.reason c.in-Err-Failed.field-0-is).engine

pub returns-in-Err-Failed-clause-step : goal.returns-in-Err-Failed-clause-step
returns-in-Err-Failed-clause-step g c =
    let fails = fails-with c.args.queues.now.setup c.args.self.now (g.S.EntryStore.content c.args.store.now)
    c.args.engine c.in-Err-Failed.field-0 c.in-Err-Failed.field-0-0 c.in-Err-Failed.field-0-1
    c.in-Err-Failed.ensures.reason c.in-Err-Failed.field-0-is in
    rw (
      c.abandon.ensures.left,
      c.abandon.ensures.setup,
      c.abandon.ensures.note,
      c.abandon.ensures.content,
      c.abandon.ensures.book,
    ) (abandoned fails c.args.book.now.fates)

pub returns-in-Err-Failed-clause-in_step : goal.returns-in-Err-Failed-clause-in_step
returns-in-Err-Failed-clause-in_step g c =
    let fails = fails-with c.args.queues.now.setup c.args.self.now (g.S.EntryStore.content c.args.store.now)
    c.args.engine c.in-Err-Failed.field-0 c.in-Err-Failed.field-0-0 c.in-Err-Failed.field-0-1
    c.in-Err-Failed.ensures.reason c.in-Err-Failed.field-0-is in
    rw c.abandon.ensures.setup (in_step-abandoned c.requires.in_step (g.met.S.EntryStore.sound c.args.store.now).once
    fails.engine refl fails.waiting fails.fence _ _ c.abandon.ensures.cells c.requires.order fails.failing
    c.abandon.ensures.note c.abandon.ensures.content)

pub returns-clause-step : goal.returns-clause-step
returns-clause-step g c =
    let member = c.in-Ok.ensures.member in
    rw c.set_last_started.ensures (start-done c.requires.in_step (g.met.S.EntryStore.sound c.args.store.now).once
    member.engine refl member.waiting member.fence member.failing c.in-Ok.ensures.need _ member.home
    (rw c.in-Ok.ensures.need member.room) c.take.ensures c.set.ensures.after)

pub returns-clause-in_step : goal.returns-clause-in_step
returns-clause-in_step g c =
    let member = c.in-Ok.ensures.member in
    rw c.set_last_started.ensures (in_step-started c.requires.in_step (g.met.S.EntryStore.sound c.args.store.now).once
    member.engine refl member.waiting c.set.ensures.cells member.home c.in-Ok.ensures.need c.take.ensures
    c.set.ensures.after)

pub returns-clause-counted : goal.returns-clause-counted
returns-clause-counted g c =
    let member = c.in-Ok.ensures.member in
    started-counted c.requires.in_step (g.met.S.EntryStore.sound c.args.store.now).once member.engine refl
    member.waiting c.requires.counted c.set.ensures.after
