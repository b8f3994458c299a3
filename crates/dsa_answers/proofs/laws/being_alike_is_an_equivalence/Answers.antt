use Rattle.dsa_answers.proofs.laws.being_alike_is_an_equivalence.Goals as goal
use Rattle.std.proofs.Common.{refl, sym, ◌∙◌}

pub returns-clause-itself : goal.returns-clause-itself
returns-clause-itself c s = record { setup = refl; entries = refl; notes = refl; active = refl }

pub returns-clause-back : goal.returns-clause-back
returns-clause-back c s t a =
    record { setup = sym a.setup; entries = sym a.entries; notes = sym a.notes; active = sym a.active }

pub returns-clause-through : goal.returns-clause-through
returns-clause-through c s t u a b = record {
  setup = a.setup ∙ b.setup;
  entries = a.entries ∙ b.entries;
  notes = a.notes ∙ b.notes;
  active = a.active ∙ b.active;
}
