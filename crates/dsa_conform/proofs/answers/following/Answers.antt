use Rattle.std.proofs.Common.{sym, ap, ◌∙◌, drop}
use Rattle.dsa_conform.specs.Answers.{following}
use Rattle.dsa_conform.proofs.Beginnings.{of_beginning, of_no_beginning}
use Rattle.dsa_conform.proofs.answers.following.Goals as goal

pub returns-in-Some : goal.returns-in-Some
returns-in-Some c =
    let found = c.in-Some.ensures.cases in
    found.2 ∙ sym (of_beginning c.args.beginning.now (drop found.0 c.args.text.now))
    ∙ ap (λ text. following text c.args.beginning.now) (sym found.1.1)

pub returns-in-None : goal.returns-in-None
returns-in-None c = sym (of_no_beginning c.args.text.now c.args.beginning.now c.in-None.ensures.cases)
