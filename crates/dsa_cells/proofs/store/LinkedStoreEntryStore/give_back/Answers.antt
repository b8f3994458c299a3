use Rattle.dsa_cells.proofs.store.LinkedStoreEntryStore.give_back.Goals as goal
use Rattle.dsa_cells.proofs.Contents.{content-emptied}

pub returns-clause-after : goal.returns-clause-after
returns-clause-after g c =
    rw (c.splice.ensures.entries, c.splice.ensures.lists, c.lists.ensures) (content-emptied _ _ _ c.requires)
