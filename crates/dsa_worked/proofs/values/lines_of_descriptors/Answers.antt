use Rattle.dsa_worked.proofs.values.lines_of_descriptors.Goals as goal
use Rattle.dsa_worked.specs.Values.{digits_in_lines}
use Rattle.std.proofs.Common.{refl}

pub returns-clause-of_a_move : goal.returns-clause-of_a_move
unfolding digits_in_lines
returns-clause-of_a_move c = refl

pub returns-clause-of_a_batch : goal.returns-clause-of_a_batch
unfolding digits_in_lines
returns-clause-of_a_batch c = refl

pub returns-clause-unnamed : goal.returns-clause-unnamed
unfolding digits_in_lines
returns-clause-unnamed c = refl
