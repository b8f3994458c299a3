use Rattle.dsa_check.proofs.rows.additions.Goals as goal
use Rattle.std.proofs.Common.{[], ◌∷◌, refl}

pub returns : goal.returns
returns c = record {
  added = (2 ∷ [], refl, refl);
  another = λ is. let whole = is.1 in let more = is.2 in absurd cc;
  no_front = λ is. let whole = is.1 in absurd cc;
  each = (2 ∷ 2 ∷ [], refl, (refl, (refl, tt)));
}
