use Rattle.dsa_cells.proofs.store.LinkedStoreEntryStore.unlink.Goals as goal
use Rattle.dsa_cells.proofs.Contents.{content-unlinked}

pub returns-clause-after : goal.returns-clause-after
returns-clause-after g c =
    rw (c.transfer.ensures.entries, c.transfer.ensures.lists, c.lists.ensures)
    (content-unlinked c.args.self.now.whole c.in_ok-node.ensures)
