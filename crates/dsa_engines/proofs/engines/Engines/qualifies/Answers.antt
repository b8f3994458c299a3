use Rattle.dsa_engines.proofs.engines.Engines.qualifies.Goals as goal
use Rattle.std.proofs.{Common.{◌∙◌, Option, [], sym, ap}, lemmas.Bool.{ltb-true}}
use Rattle.std.specs.Prelude.{is_none}
use Rattle.dsa_book.specs.State.{need_of}
use Rattle.dsa_engines.{specs.Engines.{work}, proofs.TakeReasons.{block-free, none-is}}
use Rattle.dsa_engines.specs.declared.taking.TakeBlock.{TakeBlock}
use Rattle.dsa_engines.proofs.Dispatching.{within-groups, taking-engine, qualifies-is}

pub take_block-block-requires-clause-engine : goal.take_block-block-requires-clause-engine
take_block-block-requires-clause-engine g c =
    taking-engine c.requires.in_step c.requires.group
    (ltb-true _ _ (sym c.has_queue.ensures ∙ c.if-not-has_queue.false)) (sym c.front_entry.ensures ∙ c.in-Some.is)

pub returns : goal.returns
returns g c =
    let within = within-groups c.requires.in_step c.requires.group
    (ltb-true _ _ (sym c.has_queue.ensures ∙ c.if-not-has_queue.false)) (sym c.front_entry.ensures ∙ c.in-Some.is) in
    none-is c.is_none.result c.take_block-block.result c.is_none.ensures
    ∙ ap (λ (o : Option TakeBlock). is_none o) c.take_block-block.ensures
    ∙ block-free (work c.args.queues.now.setup c.args.self.now (g.S.EntryStore.content c.args.store.now) [])
    c.args.engine _ c.in-Some.entry (taking-engine c.requires.in_step c.requires.group
    (ltb-true _ _ (sym c.has_queue.ensures ∙ c.if-not-has_queue.false)) (sym c.front_entry.ensures ∙ c.in-Some.is))
    ∙ rw (← c.requires.room within (need_of c.args.queues.now.setup c.in-Some.entry))
    (sym (qualifies-is c.requires.in_step c.requires.group
    (ltb-true _ _ (sym c.has_queue.ensures ∙ c.if-not-has_queue.false)) (sym c.front_entry.ensures ∙ c.in-Some.is)
    (sym c.requires.served)))
