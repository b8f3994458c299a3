use Rattle.dsa_explore.proofs.trials.expansions_of.Goals as goal
use Rattle.std.proofs.Common.{◌≡◌, ◌∙◌, ◌+◌, ◌∷◌, [], ℕ, List, length, length-append, subst, sym, ap, refl, arith}
use Rattle.dsa_explore.specs.declared.trials.Expansion.{Expansion}
use Rattle.dsa_explore.specs.{Trials.{AreExpansions, IsWholeExpansion}, Walked.{space_of}}
use Rattle.dsa_explore.proofs.Tried.{expansions-none, expansions-more}

pub loop-number-init : goal.loop-number-init
loop-number-init c = (
  λ first table begun is.
      let space = space_of c.args.plan.now.caps c.args.plan.now.script.now in
      subst (λ (l : List Expansion). AreExpansions space (length c.args.plan.now.setup.now) c.args.width table c.args.from l)
      (sym c.new-expansions.ensures.items)
      (expansions-none space (length c.args.plan.now.setup.now) c.args.width table c.args.from),
  (omega (arith, ap length c.new-expansions.ensures.items), (c.requires, c.in_ok-key.ensures.room)),
)

pub loop-number-preserved : goal.loop-number-preserved
loop-number-preserved c = (
  λ first table begun is.
      let space = space_of c.args.plan.now.caps c.args.plan.now.script.now in
      let set_up = length c.args.plan.now.setup.now in
      let capacity = c.loop-number.invariant.1.1.1 in
      subst (λ (l : List Expansion). AreExpansions space set_up c.args.width table c.args.from l)
      (sym c.in_ok-push.ensures.items)
      (expansions-more space set_up c.args.width table c.args.from c.loop-number.expansions.items _ c.loop-number.number
      c.loop-number.invariant.1.0
      (λ x at. subst (λ (n : ℕ). IsWholeExpansion space set_up n x c.in_ok-expansion.expansion) capacity
      (c.in_ok-expansion.ensures.expansion first table x begun is at))
      (c.loop-number.invariant.0 first table begun is)),
  (
    omega (
      arith,
      c.loop-number.invariant.1.0,
      ap length c.in_ok-push.ensures.items
          ∙ length-append c.loop-number.expansions.items (c.in_ok-expansion.expansion ∷ []),
    ),
    (omega (arith, c.loop-number-test.true), c.in_ok-expansion.ensures.room ∙ c.loop-number.invariant.1.1.1),
  ),
)
