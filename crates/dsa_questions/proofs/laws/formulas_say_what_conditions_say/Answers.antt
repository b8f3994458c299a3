use Rattle.dsa_questions.proofs.laws.formulas_say_what_conditions_say.Goals as goal
use Rattle.std.proofs.Common.{◌∙◌, [], ap}
use Rattle.dsa_formulas.specs.Formulas.{last_truth, truths_of}
use Rattle.dsa_questions.proofs.Meaning.{formula-adds}

pub returns : goal.returns
returns c depth names d watches formula facts came read knows =
    let adds = formula-adds names facts came depth (record { terms = []; watches = watches }) formula d read in
    ap (λ l. last_truth (truths_of facts [] l)) adds.terms ∙ ap last_truth (adds.truths knows [])
