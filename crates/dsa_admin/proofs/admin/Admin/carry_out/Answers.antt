use Rattle.dsa_admin.proofs.admin.Admin.carry_out.Goals as goal
use Rattle.dsa_regs.specs.declared.Deed.TheVariants.{Abort, Reset}
use Rattle.dsa_admin.proofs.{Commands.{carried-as}, Counting.{counted-caps, enable-caps}}

pub returns-in-Abort-clause-carried : goal.returns-in-Abort-clause-carried
returns-in-Abort-clause-carried g c = carried-as _ c.args.command _ Abort _ c.deed.ensures c.in-Abort.is
    (c.abort_alone.ensures.aborted c.args.self.now.active)

pub returns-in-Reset-clause-carried : goal.returns-in-Reset-clause-carried
returns-in-Reset-clause-carried g c = carried-as _ c.args.command _ Reset _ c.deed.ensures c.in-Reset.is
    (c.reset.ensures.reset c.args.self.now.active)

pub returns-in-Enable-clause-in_step : goal.returns-in-Enable-clause-in_step
returns-in-Enable-clause-in_step g c = c.enable.ensures.in_step (g.S.EntryStore.cells c.args.store.now)
    (g.S.EntryStore.content c.args.store.now) c.requires.in_step

pub returns-in-Enable-clause-counted : goal.returns-in-Enable-clause-counted
returns-in-Enable-clause-counted g c = rw c.enable.ensures.enabled (counted-caps c.args.queues.now _
    (g.S.EntryStore.content c.args.store.now) (enable-caps _ c.args.queues.now.setup) c.requires.counted)
