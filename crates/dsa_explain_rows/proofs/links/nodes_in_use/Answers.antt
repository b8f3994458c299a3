use Rattle.dsa_explain_rows.proofs.links.nodes_in_use.Goals as goal
use Rattle.std.proofs.Common.{ap, arith, lit≤, refl}
use Rattle.std.proofs.lemmas.Bool.Decides.{nat_tests}
use Rattle.dsa_store.specs.Content.{place_count, use_count}

pub returns-clause-in_the_last_list : goal.returns-clause-in_the_last_list
unfolding use_count place_count
returns-clause-in_the_last_list c = record {
  inside = lit≤ tt;
  same = refl;
  listed = lit≤ tt;
  used = lit≤ tt;
  list = refl;
  entry = refl;
  next = refl;
}

pub returns-clause-another_node : goal.returns-clause-another_node
returns-clause-another_node c is = grind (arith, ap (λ node. node.previous) is.same)

pub returns-clause-inside : goal.returns-clause-inside
returns-clause-inside c cell there = grind (arith, nat_tests, there)
