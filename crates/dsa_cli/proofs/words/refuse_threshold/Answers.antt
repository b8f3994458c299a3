use Rattle.dsa_cli.proofs.words.refuse_threshold.Goals as goal
use Rattle.std.proofs.Common.{append_assoc, refl}
use Rattle.dsa_cli.proofs.Printed.{written}

pub returns : goal.returns
returns g c = record {
  status = refl;
  same_writer = c.print.ensures.same_writer;
  text = λ none. simp append_assoc
      (written _ c.print.result c.print.ensures.taken (λ err. let some = c.print.ensures.refused err in absurd cc));
}
