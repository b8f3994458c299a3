use Rattle.dsa_check.proofs.near_rows.near_keys_that_are_told.Goals as goal
use Rattle.std.proofs.Common.{◌≡◌, codes, refl, true, false}
use Rattle.std.specs.Prelude.{Some, None}
use Rattle.dsa_check.specs.Worked.{near_on_literals}

pub returns : goal.returns
unfolding near_on_literals
returns c = record {
  told = λ key text is. rw is refl;
  another = λ key text is near.
      let other : Some (codes "wrd") ≡ Some (codes "word2") = rw is at near in
      absurd cc;
  untold = λ key near. let none : Some (codes "wrd") ≡ None = near.0 in absurd cc;
  none_near = λ key. (refl, refl);
  expandable = λ key. (refl, refl);
  no_word = λ key near. let not : true ≡ false = near.1 in absurd cc;
  no_call = λ key near. let not : false ≡ true = near.1 in absurd cc;
  other_reason = tt;
}
