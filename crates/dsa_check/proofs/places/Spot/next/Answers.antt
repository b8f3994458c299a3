use Rattle.std.proofs.Common.{◌+◌, refl, sym, ap, arith}
use Rattle.std.proofs.lemmas.Grind.{common_steps}
use Rattle.dsa_check.proofs.Spots.{column_below, column_again, column_more, line_more, line_same}
use Rattle.dsa_check.proofs.places.Spot.next.Goals as goal

pub overflow_add-result-else-bytes-self-eq10 : goal.overflow_add-result-else-bytes-self-eq10
overflow_add-result-else-bytes-self-eq10 c =
    let below = column_below c.args.bytes.now c.args.self.at c.requires.spot.inside in grind (arith, common_steps)

pub returns-then-bytes-self-eq10 : goal.returns-then-bytes-self-eq10
returns-then-bytes-self-eq10 c = record {
  spot = record {
    inside = omega (arith, c.requires.inside);
    line = rw (line_more _ _ c.requires.inside c.if-bytes-self-eq10.true) (ap (λ n. n + 1) c.requires.spot.line);
    column = sym (column_again _ _ c.requires.inside c.if-bytes-self-eq10.true);
  };
  at = refl;
}

pub returns-else-bytes-self-eq10 : goal.returns-else-bytes-self-eq10
returns-else-bytes-self-eq10 c = record {
  spot = record {
    inside = omega (arith, c.requires.inside);
    line = rw (line_same _ _ c.requires.inside c.if-bytes-self-eq10.false) c.requires.spot.line;
    column = rw (column_more _ _ c.requires.inside c.if-bytes-self-eq10.false) (ap (λ n. n + 1) c.requires.spot.column);
  };
  at = refl;
}
