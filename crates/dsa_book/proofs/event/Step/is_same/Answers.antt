use Rattle.dsa_book.specs.contracts.event.StepPartialEq.TheImpl as step_eq
use Rattle.dsa_book.proofs.event.Step.is_same.Goals as goal
use Rattle.std.proofs.Common.{◌≡◌, ◌∙◌, sym}
use Rattle.dsa_book.proofs.EqualSteps.{same-step, equal-itself}

pub returns : goal.returns
returns c =
    let e : c.eq.result ≡ step_eq.eq-value.it c.args.self.now c.args.other.now = c.eq.ensures in (
      λ t. same-step c.args.self.now c.args.other.now (sym e ∙ t),
      λ s. e
          ∙ equal-itself c.args.self.now c.args.other.now s,
    )
