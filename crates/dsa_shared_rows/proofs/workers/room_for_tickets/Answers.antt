use Rattle.dsa_shared_rows.proofs.workers.room_for_tickets.Goals as goal
use Rattle.std.proofs.Common.{lit≤, refl}

pub returns-clause-room : goal.returns-clause-room
returns-clause-room c = (refl, lit≤ tt)

pub returns-clause-just : goal.returns-clause-just
returns-clause-just c = (refl, lit≤ tt)
