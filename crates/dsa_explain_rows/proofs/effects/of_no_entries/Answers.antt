use Rattle.dsa_explain_rows.proofs.effects.of_no_entries.Goals as goal
use Rattle.std.proofs.Common.{ap, arith}
use Rattle.std.specs.Prelude.{is_some}

pub returns-clause-not_accepted : goal.returns-clause-not_accepted
returns-clause-not_accepted c s' is = grind (arith, is.on)

pub returns-clause-not_taken : goal.returns-clause-not_taken
returns-clause-not_taken c s' is = let found = is.is_front in absurd cc

pub returns-clause-not_fetched : goal.returns-clause-not_fetched
returns-clause-not_fetched c s' is = let found = is.is_note in absurd cc

pub returns-clause-not_started : goal.returns-clause-not_started
returns-clause-not_started c s' is = grind (arith, ap (λ o. is_some o) is.is_first)

pub returns-clause-not_abandoned : goal.returns-clause-not_abandoned
returns-clause-not_abandoned c s' is = grind (arith, ap (λ o. is_some o) is.is_first)

pub returns-clause-not_ended : goal.returns-clause-not_ended
returns-clause-not_ended c s' is = grind (arith, ap (λ o. is_some o) is.is_found)
