use Rattle.dsa_command_rows.proofs.checks.places_of_flaws.Goals as goal
use Rattle.std.proofs.Common.{◌∙◌, refl, sym, arith}

pub returns-clause-placed : goal.returns-clause-placed
returns-clause-placed c finding flaw line column =
    record {
      flaw = flaw;
      line = line;
      column = column;
      placed = record { inside = omega arith; line = refl; column = refl };
    }

pub returns-clause-of_a_value : goal.returns-clause-of_a_value
returns-clause-of_a_value c finding spot fault is = let clash = sym fault ∙ is.flaw in absurd cc
