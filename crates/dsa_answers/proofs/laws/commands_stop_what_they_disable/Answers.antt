use Rattle.dsa_answers.proofs.laws.commands_stop_what_they_disable.Goals as goal
use Rattle.dsa_answers.proofs.Stops.{from-opening, at-rest}

pub returns-clause-by_command : goal.returns-clause-by_command
returns-clause-by_command c caps h s e =
    let stops = from-opening caps h s e in
    record { device = stops.device; queues = stops.queues }

pub returns-clause-at_rest : goal.returns-clause-at_rest
returns-clause-at_rest c caps h s e n = at-rest s.work.setup s.active n (from-opening caps h s e)
