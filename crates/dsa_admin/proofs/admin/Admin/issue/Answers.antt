use Rattle.dsa_admin.proofs.admin.Admin.issue.Goals as goal
use Rattle.std.proofs.Common.{refl, sym, ◌∙◌}
use Rattle.dsa_admin.{specs.Admin.{state}, proofs.Refusing.{refused}}

pub returns-in-Some-clause-issued : goal.returns-in-Some-clause-issued
returns-in-Some-clause-issued g c =
    let s = state c.args.queues.now.setup c.args.engines.now (g.S.EntryStore.content c.args.store.now)
    c.args.book.now.fates c.args.self.now.active in
    rw c.fault.ensures (refused s c.args.command c.in-Some.reason
    (sym (c.why_issue.ensures.reason s refl refl c.requires.counted c.requires.awaiting) ∙ c.in-Some.is))
