use Rattle.dsa_conform.proofs.offering.has_choice.Goals as goal
use Rattle.dsa_conform.proofs.offering.has_choice.Goals.{then-is_some+else-is_some-2, else-is_some}
use Rattle.std.proofs.Common.{◌≡◌, ◌∙◌, inl, inr, sym, Option, Some, None, false, refl, rules}
use Rattle.std.specs.Prelude.{is_some}
use Rattle.dsa_conform.proofs.Forks.{choice_more, same_choice}

-- an option that is none, or is not
none_of : {X : Type 0} (o : Option X) → is_some o ≡ false → o ≡ None
none_of None h = refl
none_of (Some x) h = absurd cc

pub loop-queue-preserved : goal.loop-queue-preserved
loop-queue-preserved g c =
    let w = c.args.device.now.state.work in
    choice_more w c.args.engine c.loop-queue.queue c.loop-queue.first c.if-is_some.first c.loop-queue.invariant
    (elim c.if-is_some.branch [
      | then-is_some+else-is_some-2 v ↦
          let none = none_of c.loop-queue.first (sym v.is_some-then-is_some.ensures ∙ v.if-is_some-2.false) in
          inr (none, v.first-is)
      | else-is_some v ↦
          let none = none_of c.offered.result (sym c.is_some.ensures ∙ v.if-is_some.false) in
          inl (rw none at c.offered.ensures, v.first-is)
    ])

pub returns : goal.returns
returns g c = λ none q p below under may can.
    same_choice c.args.device.now.state.work c.args.engine c.loop-queue.queue c.loop-queue.first
    c.loop-queue.invariant q p (search rules) (search rules) may can
