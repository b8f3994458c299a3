use Rattle.dsa_statement_rows.proofs.ways.moves_of_schedules.Goals as goal
use Rattle.std.proofs.Common.{[], ◌∷◌, length-append, refl}

pub returns-clause-last : goal.returns-clause-last
returns-clause-last c parties asks first steps finding may = length-append may.moves (may.last ∷ [])

pub returns-clause-parts : goal.returns-clause-parts
returns-clause-parts c caps script setup capacity count steps walked kept = kept.parts

pub returns-clause-step : goal.returns-clause-step
returns-clause-step c script old new move step made = made.is

pub returns-clause-full : goal.returns-clause-full
returns-clause-full c = refl
