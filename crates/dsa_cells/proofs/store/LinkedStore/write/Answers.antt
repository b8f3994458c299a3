use Rattle.dsa_cells.proofs.store.LinkedStore.write.Goals as goal
use Rattle.std.proofs.lemmas.List.{get_or_read}
use Rattle.dsa_cells.{specs.Array.{no_node}, proofs.Contents.{written}}

pub invariant_of-self : goal.invariant_of-self
invariant_of-self g c = record {
  whole = (written c.args.entry c.args.self.now.whole (get_or_read _ _ _ c.requires c.index_mut.ensures.value
      no_node)).whole;
}

pub returns-clause-lists : goal.returns-clause-lists
returns-clause-lists g c = (written c.args.entry c.args.self.now.whole (get_or_read _ _ _ c.requires
    c.index_mut.ensures.value no_node)).lists

pub returns-clause-entries : goal.returns-clause-entries
returns-clause-entries g c = (written c.args.entry c.args.self.now.whole (get_or_read _ _ _ c.requires
    c.index_mut.ensures.value no_node)).entries

pub returns-clause-owner : goal.returns-clause-owner
returns-clause-owner g c = (written c.args.entry c.args.self.now.whole (get_or_read _ _ _ c.requires
    c.index_mut.ensures.value no_node)).owner
