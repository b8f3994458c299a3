use Rattle.dsa_check.proofs.rows.reasons_of_parts.Goals as goal
use Rattle.std.proofs.Common.{refl}

pub returns : goal.returns
returns c = record {
  document = λ finding nowhere told. (nowhere, told);
  untold_document = λ finding none why. let told = why.1 in absurd cc;
  caps = λ finding key name holder nowhere told.
      (nowhere, rw told (record { key = key; named = name; holder = holder; so = refl; stray = tt; near = tt }, tt));
  untold_caps = λ finding none why. absurd (rw none at why.1);
  capacity = λ finding key name holder nowhere told.
      (nowhere, rw told (record { key = key; named = name; holder = holder; so = refl; stray = tt; near = tt }, tt));
  untold_capacity = λ finding none why. absurd (rw none at why.1);
  step = λ finding kind nowhere told.
      record { kind = kind; reasons = told; line = rw nowhere.no_line tt; column = nowhere.no_column };
  untold_step = λ finding none why. let told = why.reasons in absurd cc;
  no_step = λ finding why. why;
  placed_document = λ finding line why. let none = why.0.no_line in absurd cc;
  placed_caps = λ finding column why. let none = why.0.no_column in absurd cc;
  placed_capacity = λ finding line why. let none = why.0.no_line in absurd cc;
  placed_step = λ finding column why. let none = why.column in absurd cc;
  no_fault = λ finding why. why;
}
