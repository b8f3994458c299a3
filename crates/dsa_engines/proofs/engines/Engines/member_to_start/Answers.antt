use Rattle.dsa_engines.proofs.engines.Engines.member_to_start.Goals as goal
use Rattle.std.proofs.Common.{◌∙◌, sym}
use Rattle.dsa_engines.proofs.{Homes.{has-engine}, Members.{holds-none}, StartReasons.{no-room, has-room}}

pub roomy_group-requires : goal.roomy_group-requires
roomy_group-requires g c = holds-none c.requires.in_step (g.met.S.EntryStore.sound c.args.store.now).once
    (has-engine c.caps-caps.ensures.value c.if-engine-caps.false) c.list-list.ensures
    (sym c.first_waiting.ensures ∙ c.in-Some.is)

pub returns-in-Err-clause-reason : goal.returns-in-Err-clause-reason
returns-in-Err-clause-reason g c fates =
    no-room (has-engine c.caps-caps.ensures.value c.if-engine-caps.false) fates
    (rw c.list-list.ensures at (sym c.first_waiting.ensures ∙ c.in-Some.is))
    (rw c.list-list.ensures at c.if-waits_at_fence.ensures) c.requires.in_step c.if-fails_at_fence.ensures
    c.need-need.ensures c.in-Err.ensures.0 c.in-Err.ensures.1

pub returns-in-Ok-clause-reason : goal.returns-in-Ok-clause-reason
returns-in-Ok-clause-reason g c fates =
    has-room (has-engine c.caps-caps.ensures.value c.if-engine-caps.false) fates
    (rw c.list-list.ensures at (sym c.first_waiting.ensures ∙ c.in-Some.is))
    (rw c.list-list.ensures at c.if-waits_at_fence.ensures) c.requires.in_step c.if-fails_at_fence.ensures
    c.need-need.ensures (rw c.in-Ok.ensures.0 c.in-Ok.ensures.2)
