use Rattle.dsa_serve.proofs.opening.begin.Goals as goal
use Rattle.std.proofs.Common.{[]}

pub returns-clause-ok : goal.returns-clause-ok
returns-clause-ok c blank =
    rw (← c.deref.ensures.value, ← c.deref-2.ensures.value)
    (c.in_ok-feed.ensures c.args.is_friendly c.deref.result.now [] []
    (rw c.new.ensures.items (c.in_ok-session.ensures.ok blank)))
