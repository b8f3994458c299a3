use Rattle.dsa_cells.proofs.links.splice.Goals as goal
use Rattle.dsa_cells.proofs.Splicing.{splice}

pub mark-requires : goal.mark-requires
mark-requires c = (splice _ _ _ _ _ c.requires).inside

pub join-requires-clause-before_in : goal.join-requires-clause-before_in
join-requires-clause-before_in c = rw c.mark.ensures (splice _ _ _ _ _ c.requires).tail

pub join-requires-clause-after_in : goal.join-requires-clause-after_in
join-requires-clause-after_in c = rw c.mark.ensures (splice _ _ _ _ _ c.requires).head

pub joined_ends-requires : goal.joined_ends-requires
joined_ends-requires c = (splice _ _ _ _ _ c.requires).fits

pub returns-clause-store : goal.returns-clause-store
returns-clause-store c = rw (c.joined_ends.ensures, c.join.ensures, c.mark.ensures)
    (splice _ _ _ _ _ c.requires).left.store

pub returns-clause-lists : goal.returns-clause-lists
returns-clause-lists c = rw (c.joined_ends.ensures, c.join.ensures, c.mark.ensures)
    (splice _ _ _ _ _ c.requires).left.lists

pub returns-clause-entries : goal.returns-clause-entries
returns-clause-entries c = rw (c.join.ensures, c.mark.ensures) (splice _ _ _ _ _ c.requires).entries
