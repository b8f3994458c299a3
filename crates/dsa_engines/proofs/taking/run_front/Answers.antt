use Rattle.dsa_engines.proofs.taking.run_front.Goals as goal
use Rattle.dsa_engines.proofs.Fronts.{moved-replaced}

pub returns-clause-after : goal.returns-clause-after
returns-clause-after g c =
    let content = g.S.EntryStore.content c.args.store.now in
    rw (c.move_front.ensures.after, c.set.ensures.after) (moved-replaced content c.args.from.0 c.args.to.0 c.args.front.0
    c.args.front.1 _ (g.met.S.EntryStore.sound c.args.store.now).once c.requires.from c.requires.apart c.requires.front)
