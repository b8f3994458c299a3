use Rattle.dsa_statement_rows.proofs.searches.steps_that_are_noted.Goals as goal
use Rattle.std.proofs.Common.{◌≡◌, ℕ, [], inl, refl, ap, ⊎_elim, arith}
use Rattle.dsa_keys.specs.Parties.{Stored}
use Rattle.dsa_explore.specs.WorkedSearch.{quiet_world}
use Rattle.dsa_statement_rows.specs.Searches.{stored_at}

pub returns-clause-not_stored : goal.returns-clause-not_stored
returns-clause-not_stored c w move reply noted = noted.stored.within

pub returns-clause-too_late : goal.returns-clause-too_late
returns-clause-too_late c w move reply noted = ⊎_elim
    (λ (e : stored_at 4 w ≡ noted.stored.at).
    absurd (omega (arith, noted.stored.soon, ap (λ (z : Stored ℕ). z.level) e)))
    (λ none. absurd none) noted.stored.within

pub returns-clause-noted : goal.returns-clause-noted
returns-clause-noted c move reply = record {
  stored = record {
    at = stored_at 3 (quiet_world []);
    within = inl refl;
    soon = omega arith;
    keys = record { places = refl; keys = refl };
  };
  told = λ finding none. absurd none;
}

pub returns-clause-front : goal.returns-clause-front
returns-clause-front c old new w table is = is.front
