use Rattle.dsa_engines.proofs.starting.abandon_all.Goals as goal
use Rattle.std.proofs.{Common.{ap, arith, ◌∙◌}, lemmas.Grind.{common_steps}}
use Rattle.dsa_queues.{specs.Queues.{Kept}, proofs.Counts.{first-leaves}}

pub left-requires-clause-there : goal.left-requires-clause-there
left-requires-clause-there g c = (first-leaves c.loop-entry.queues (g.S.EntryStore.content c.args.store.now)
    c.args.list.0 (c.in-Some.field-0-0, c.in-Some.entry) c.next.new.self c.requires.list
    (rw c.in-Some.ensures.steps at c.loop-entry.invariant.counted)).there

pub left-requires-clause-some : goal.left-requires-clause-some
left-requires-clause-some g c = (first-leaves c.loop-entry.queues (g.S.EntryStore.content c.args.store.now)
    c.args.list.0 (c.in-Some.field-0-0, c.in-Some.entry) c.next.new.self c.requires.list
    (rw c.in-Some.ensures.steps at c.loop-entry.invariant.counted)).some

pub loop-entry-preserved : goal.loop-entry-preserved
loop-entry-preserved g c =
    let counted = rw c.in-Some.ensures.steps at c.loop-entry.invariant.counted in
    record {
      parts = grind (arith, common_steps, c.loop-entry.invariant.parts, c.in-Some.ensures.steps);
      rows = grind (arith, common_steps, c.add_row.ensures, c.loop-entry.invariant.rows);
      setup = ap (λ (k : Kept). k.setup) c.left.ensures ∙ c.loop-entry.invariant.setup;
      counted = rw c.left.ensures (first-leaves c.loop-entry.queues (g.S.EntryStore.content c.args.store.now)
          c.args.list.0 (c.in-Some.field-0-0, c.in-Some.entry) c.next.new.self c.requires.list counted).counted;
    }
