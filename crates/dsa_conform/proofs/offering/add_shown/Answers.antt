use Rattle.dsa_conform.proofs.offering.add_shown.Goals as goal
use Rattle.std.proofs.Common.{◌≡◌, ◌∙◌, ◌∷◌, [], inl, inr, Some, refl, sym, subst}
use Rattle.dsa_base.{proofs.Lists.{In-left, In-right, In-push}}
use Rattle.dsa_conform.specs.Allowed.{offer}

pub returns-clause-keeps : goal.returns-clause-keeps
returns-clause-keeps g c = λ q i.
    rw c.in_ok-push.ensures.items (In-left q c.args.found.now.items (c.args.queue ∷ []) i)

pub returns-clause-each : goal.returns-clause-each
returns-clause-each g c = λ q i.
    let w = c.args.device.now.state.work in
    elim (In-push q c.args.found.now.items c.args.queue (rw c.in_ok-push.ensures.items at i)) [
      | inl old ↦ inl old
      | inr same ↦
          inr (
            c.in-Some.entry,
            subst (λ k. offer w c.args.engine k ≡ Some c.in-Some.entry) same (sym c.offer.ensures ∙ c.in-Some.is),
            sym c.in_ok-is_shown.ensures ∙ c.if-not-branch.false,
          )
    ]

pub returns-clause-adds : goal.returns-clause-adds
returns-clause-adds g c = λ entry is shown.
    rw c.in_ok-push.ensures.items (In-right c.args.queue c.args.found.now.items (c.args.queue ∷ []) (inl refl))
