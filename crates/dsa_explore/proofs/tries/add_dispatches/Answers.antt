use Rattle.dsa_explore.proofs.tries.add_dispatches.Goals as goal
use Rattle.dsa_parties.specs.declared.places.Move.TheVariants as move
use Rattle.std.proofs.Common.{◌≡◌, ℕ, Some, subst, sym, ◌∙◌}
use Rattle.dsa_base.specs.Lists.{In}
use Rattle.dsa_parties.specs.declared.places.Move.{Move}

pub returns-clause-adds : goal.returns-clause-adds
returns-clause-adds c = λ engine q is below may.
    subst (λ (m : Move). In (record { by = m; queue = Some q }) c.add_queues.new.tries.items) (sym is)
    (let same : move.Dispatch c.in-Dispatch.engine ≡ move.Dispatch engine = sym c.in-Dispatch.is ∙ is in
    let e : c.in-Dispatch.engine ≡ engine = cc in
    subst (λ (k : ℕ). In (record { by = move.Dispatch k; queue = Some q }) c.add_queues.new.tries.items) e
    (c.in_ok-add_queues.ensures.adds q below (rw e may)))
