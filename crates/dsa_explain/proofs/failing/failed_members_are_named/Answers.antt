use Rattle.dsa_explain.proofs.failing.failed_members_are_named.Goals as goal
use Rattle.dsa_engines.proofs.StartReasons.{failure-named}
use Rattle.dsa_explain.proofs.FailedMembers.{replay-named}

pub returns-clause-named : goal.returns-clause-named
returns-clause-named c = replay-named

pub returns-clause-told : goal.returns-clause-told
returns-clause-told c caps history s engine member left failed reached =
    failure-named s.work engine member left failed (replay-named caps history s engine reached)
