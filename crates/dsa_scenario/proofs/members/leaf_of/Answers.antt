use Rattle.dsa_scenario.proofs.members.leaf_of.Goals as goal
use Rattle.std.proofs.Common.{◌∷◌, subst, sym}
use Rattle.json.specs.Reads.{token_of}
use Rattle.serde_json.specs.Data.{boolean, null, string}
use Rattle.dsa_scenario.specs.Tokens.{Reads}
use Rattle.dsa_scenario.proofs.Tokens.{reads_null, reads_text, reads_truth}

pub returns-in-String : goal.returns-in-String
returns-in-String c new =
    subst (λ t. Reads 0 (token_of t ∷ new) (string c.in-String.text.now) new) (sym c.in-String.is)
    (reads_text c.in-String.text.now new)

pub returns-in-Bool : goal.returns-in-Bool
returns-in-Bool c new =
    subst (λ t. Reads 0 (token_of t ∷ new) (boolean c.in-Bool.truth) new) (sym c.in-Bool.is)
    (reads_truth c.in-Bool.truth new)

pub returns-in-Null : goal.returns-in-Null
returns-in-Null c new = subst (λ t. Reads 0 (token_of t ∷ new) null new) (sym c.in-Null.is) (reads_null new)
