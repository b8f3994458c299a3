use Rattle.dsa_store.proofs.walk.held_entries.Goals as goal
use Rattle.dsa_store.proofs.Walks.{entries_from-front}

pub returns : goal.returns
returns g c =
    let s = c.args.store.now in
    entries_from-front (g.S.EntryStore.content s) c.args.list.0 c.front.result
    (g.met.S.EntryStore.sound s).once c.front.ensures
