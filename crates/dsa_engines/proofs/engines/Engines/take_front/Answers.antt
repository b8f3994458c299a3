use Rattle.dsa_engines.proofs.engines.Engines.take_front.Goals as goal
use Rattle.std.proofs.Common.{◌∙◌, refl, sym, arith}
use Rattle.dsa_queues.proofs.Counts.{counted-moved}
use Rattle.dsa_engines.proofs.Dispatching.{qualifying-queue, within-groups, fits-taken, in_step-after, taking-engine}

pub front_entry-requires : goal.front_entry-requires
front_entry-requires g c =
    let queue = qualifying-queue c.args.queues.now.setup c.args.self.now
    (g.S.EntryStore.content c.args.store.now) c.args.engine c.args.queue c.requires.qualifies in
    omega (arith, c.requires.in_step.store.lists, queue)

pub take-requires-clause-group : goal.take-requires-clause-group
take-requires-clause-group g c =
    within-groups c.requires.in_step c.requires.group (qualifying-queue c.args.queues.now.setup c.args.self.now
    (g.S.EntryStore.content c.args.store.now) c.args.engine c.args.queue c.requires.qualifies)
    (sym c.front_entry.ensures ∙ c.in-Some.is)

pub take-requires-clause-fits : goal.take-requires-clause-fits
take-requires-clause-fits g c =
    fits-taken c.requires.in_step c.requires.group (qualifying-queue c.args.queues.now.setup c.args.self.now
    (g.S.EntryStore.content c.args.store.now) c.args.engine c.args.queue c.requires.qualifies)
    (sym c.front_entry.ensures ∙ c.in-Some.is) c.need.ensures c.requires.qualifies

pub returns-clause-in_step : goal.returns-clause-in_step
returns-clause-in_step g c =
    in_step-after c.requires.in_step c.requires.group (qualifying-queue c.args.queues.now.setup c.args.self.now
    (g.S.EntryStore.content c.args.store.now) c.args.engine c.args.queue c.requires.qualifies)
    (sym c.front_entry.ensures ∙ c.in-Some.is) c.list-progress.ensures c.run_front.ensures.after
    c.run_front.ensures.cells c.need.ensures c.take.ensures c.open_note.ensures c.set_turn.ensures

pub returns-clause-counted : goal.returns-clause-counted
returns-clause-counted g c =
    let queue = qualifying-queue c.args.queues.now.setup c.args.self.now (g.S.EntryStore.content c.args.store.now)
    c.args.engine c.args.queue c.requires.qualifies in
    rw c.run_front.ensures.after (counted-moved c.args.queues.now (g.S.EntryStore.content c.args.store.now)
    c.args.queue c.list-progress.result.0 _ _ (omega (arith, c.requires.in_step.store.lists, queue))
    (omega (
      arith,
      c.requires.in_step.store.lists,
      c.list-progress.ensures,
      taking-engine c.requires.in_step c.requires.group queue (sym c.front_entry.ensures ∙ c.in-Some.is),
    )) (sym c.front_entry.ensures ∙ c.in-Some.is) refl c.requires.counted)
