use Rattle.dsa_formulas.proofs.laws.formulas_depend_on_keys_alone.Goals as goal
use Rattle.dsa_formulas.specs.{Facts.{is_so}, Formulas.{holds_there}}

pub returns : goal.returns
returns c script terms w v k = λ i. holds_there (is_so script (k.places i) (k.keys i)) terms
