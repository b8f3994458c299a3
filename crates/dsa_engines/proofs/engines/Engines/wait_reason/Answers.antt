use Rattle.dsa_engines.proofs.engines.Engines.wait_reason.Goals as goal
use Rattle.std.proofs.Common.{◌∙◌, [], sym}
use Rattle.dsa_engines.specs.Engines.{work}
use Rattle.dsa_engines.proofs.EndReasons.{no-wait, one-wait}

pub returns-in_err-waited : goal.returns-in_err-waited
returns-in_err-waited g c = rw c.from_residual.ensures
    (no-wait (work c.args.queues.now.setup c.args.self.now (g.S.EntryStore.content c.args.store.now) []) c.args.engine
    c.args.entry.now (sym c.requires.batch ∙ c.if-is_batch.false) (sym c.first_waited.ensures ∙ c.in_err-waited.was))

pub returns : goal.returns
returns g c =
    one-wait (work c.args.queues.now.setup c.args.self.now (g.S.EntryStore.content c.args.store.now) []) c.args.engine
    c.args.entry.now (c.in_ok-waited.field-0-0, c.in_ok-waited.waited) (sym c.requires.batch ∙ c.if-is_batch.false)
    (sym c.is_drain.ensures ∙ c.if-not-is_drain.false) (sym c.first_waited.ensures ∙ c.in_ok-waited.was)
