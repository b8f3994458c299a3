use Rattle.dsa_cells.proofs.links.transfer.Goals as goal
use Rattle.dsa_cells.proofs.Moving.{transfer}

pub bounds-headers-from : goal.bounds-headers-from
bounds-headers-from c = (transfer _ _ _ _ _ c.requires).owner

pub detach-requires-clause-next_in : goal.detach-requires-clause-next_in
detach-requires-clause-next_in c = (transfer _ _ _ _ _ c.requires).next

pub detach-requires-clause-previous_in : goal.detach-requires-clause-previous_in
detach-requires-clause-previous_in c = (transfer _ _ _ _ _ c.requires).previous

pub detach-requires-clause-counted : goal.detach-requires-clause-counted
detach-requires-clause-counted c = (transfer _ _ _ _ _ c.requires).counted

pub attach-requires-clause-tail_in : goal.attach-requires-clause-tail_in
attach-requires-clause-tail_in c =
    rw (c.detach.ensures.header, c.detach.ensures.nodes) (transfer _ _ _ _ _ c.requires).tail

pub attach-requires-clause-room : goal.attach-requires-clause-room
attach-requires-clause-room c = rw c.detach.ensures.header (transfer _ _ _ _ _ c.requires).room

pub returns-clause-store : goal.returns-clause-store
returns-clause-store c =
    rw (c.attach.ensures.nodes, c.attach.ensures.header, c.detach.ensures.nodes, c.detach.ensures.header)
    (transfer _ _ _ _ _ c.requires).left.store

pub returns-clause-lists : goal.returns-clause-lists
returns-clause-lists c =
    rw (c.attach.ensures.nodes, c.attach.ensures.header, c.detach.ensures.nodes, c.detach.ensures.header)
    (transfer _ _ _ _ _ c.requires).left.lists

pub returns-clause-entries : goal.returns-clause-entries
returns-clause-entries c = rw (c.attach.ensures.nodes, c.detach.ensures.nodes, c.detach.ensures.header)
    (transfer _ _ _ _ _ c.requires).entries
