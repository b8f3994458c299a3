use Rattle.dsa_statement_rows.proofs.ways.endings_of_worlds.Goals as goal
use Rattle.std.proofs.Common.{inl, inr, refl, subst, sym}
use Rattle.dsa_keys.specs.Parties.{Stored}
use Rattle.dsa_parties.specs.{Offers.{parties_of}, Standing.{Standing}}
use Rattle.dsa_explore.specs.Ends.{IsLastWorld}

pub returns-clause-fewest : goal.returns-clause-fewest
returns-clause-fewest c endings ending has = has.soon

pub returns-clause-no_end : goal.returns-clause-no_end
returns-clause-no_end c script endings x not_last = inr (refl, not_last)

pub returns-clause-none : goal.returns-clause-none
returns-clause-none c script x not_last = record {
  once = λ i j ending other at there alike. absurd cc;
  sound = λ ending within. absurd within;
  complete = λ y within last. elim within [
    | inl e ↦ absurd (not_last (subst (λ (z : Stored Standing). IsLastWorld (parties_of script) z.world) (sym e) last))
    | inr none ↦ absurd none
  ];
}
