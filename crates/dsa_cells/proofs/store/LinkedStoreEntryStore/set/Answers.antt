use Rattle.dsa_cells.proofs.store.LinkedStoreEntryStore.set.Goals as goal
use Rattle.std.proofs.Common.{sym}
use Rattle.dsa_cells.proofs.Contents.{content-written}

pub returns-in-Some-clause-after : goal.returns-in-Some-clause-after
returns-in-Some-clause-after g c =
    rw (c.write.ensures.entries, c.write.ensures.lists) (content-written _ _ _ _ c.in-Some.ensures.inside)

pub returns-in-None-clause-after : goal.returns-in-None-clause-after
returns-in-None-clause-after g c = sym (c.in-None.ensures.replaced c.args.entry)
