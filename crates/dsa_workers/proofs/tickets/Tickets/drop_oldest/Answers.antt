use Rattle.dsa_workers.proofs.tickets.Tickets.drop_oldest.Goals as goal
use Rattle.std.proofs.{Common.{◌∙◌, ap, sym, drop}, lemmas.List.{drop-drop}}
use Rattle.std.proofs.Common.{arith}
use Rattle.std.proofs.lemmas.Grind.{common_steps}

pub returns-then-self-len-clause-tickets : goal.returns-then-self-len-clause-tickets
returns-then-self-len-clause-tickets g c =
    sym (drop-drop 1 c.self.inside.taken c.self.inside.came.items) ∙ ap (λ p. drop 1 p.tickets) c.self.view_is

pub returns-else-self-len-clause-tickets : goal.returns-else-self-len-clause-tickets
returns-else-self-len-clause-tickets = grind (arith, common_steps)
