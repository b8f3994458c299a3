use Rattle.dsa_report_rows.proofs.explorations.searches_within_bounds.Goals as goal

pub returns-clause-states : goal.returns-clause-states
returns-clause-states c bounds caps script setup explored found = found.small

pub returns-clause-bounded : goal.returns-clause-bounded
returns-clause-bounded c bounds caps script setup explored found incomplete = found.bounded incomplete
