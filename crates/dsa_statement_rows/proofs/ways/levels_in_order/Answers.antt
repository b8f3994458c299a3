use Rattle.dsa_statement_rows.proofs.ways.levels_in_order.Goals as goal
use Rattle.std.proofs.Common.{◌∙◌, ◌+◌, ℕ, ap, lit≤, refl, sym}
use Rattle.std.proofs.lemmas.Option.{same_Some}
use Rattle.dsa_keys.specs.Parties.{Stored}
use Rattle.dsa_statement_rows.specs.Searches.{node_from, stored_at}

pub returns-clause-rising : goal.returns-clause-rising
returns-clause-rising c table x y levels first second = levels.rising 1 2 x y (lit≤ tt) first second

pub returns-clause-second : goal.returns-clause-second
returns-clause-second c w v x tried node =
    node.later ∙ sym (ap (λ (p : Stored ℕ). p.level + 1) (same_Some (stored_at 0 w) node.parent node.at))

pub returns-clause-told : goal.returns-clause-told
returns-clause-told c w tried told = told 1 (node_from 0 tried 1) (stored_at 1 w) refl refl (lit≤ tt)
