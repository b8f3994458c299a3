use Rattle.dsa_questions.proofs.answers.holds.Goals as goal
use Rattle.std.proofs.Common.{◌≡◌, ℕ, List, get_or, subst}
use Rattle.std.specs.Prelude.{IfOk}
use Rattle.dsa_keys.specs.Key.{key}
use Rattle.dsa_parties.specs.Standing.{stand_of}
use Rattle.dsa_formulas.specs.{Facts.{is_so}, Formulas.{holds_there}}

pub returns : goal.returns
returns c =
    subst (λ (l : List ℕ). IfOk c.is_met.result (λ holds. holds
    ≡ holds_there (is_so c.args.plan.now.script.now (stand_of c.args.walked.now.places)
    (key (λ name. get_or l name 0) c.args.walked.now.machine.device.state)) c.args.terms.now)) c.as_slice.ensures.value
    c.is_met.ensures
