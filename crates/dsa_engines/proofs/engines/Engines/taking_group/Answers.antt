use Rattle.dsa_engines.proofs.engines.Engines.taking_group.Goals as goal
use Rattle.std.proofs.Common.{◌∙◌, sym}
use Rattle.dsa_engines.proofs.Dispatching.{not-served}

pub returns-then-not-has_queue-clause-qualifies : goal.returns-then-not-has_queue-clause-qualifies
returns-then-not-has_queue-clause-qualifies g c =
    sym (not-served c.requires.in_step c.in_ok-group.ensures.some c.args.queue
    (rw (← c.group.ensures) (sym c.has_queue.ensures ∙ c.if-not-has_queue.true)))
