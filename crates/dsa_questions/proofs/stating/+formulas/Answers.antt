use Rattle.dsa_questions.proofs.stating.+formulas.Goals as goal
use Rattle.std.proofs.Common.{◌≡◌, ◌-◌, Option, subst, arith}
use Rattle.std.specs.Prelude.{IfOk}
use Rattle.serde_json.specs.View.{view}
use Rattle.dsa_base.specs.Rows.{when}
use Rattle.dsa_questions.specs.{Formed.{formed, as_names}, Stating.{FormulaSoFar}}
use Rattle.dsa_questions.proofs.Nested.{one-key, two-keys}

pub add_formula-returns-then-has_keys : goal.add_formula-returns-then-has_keys
add_formula-returns-then-has_keys n c =
    subst (λ (o : Option FormulaSoFar). IfOk c.add_one_key.result (λ good.
    when good (formed c.add_one_key.new.so_far) ≡ o))
    (one-key c.args.depth (c.args.depth - 1) (as_names c.args.naming.now) (formed c.args.so_far.now)
    (view c.args.value.now)
    (omega (arith, c.if-depth-eq0.false)) c.has_keys.result c.has_keys.ensures c.if-has_keys.true) c.add_one_key.ensures

pub add_formula-returns : goal.add_formula-returns
add_formula-returns n c =
    subst (λ (o : Option FormulaSoFar). IfOk c.add_stated.result (λ good.
    when good (formed c.add_stated.new.so_far) ≡ o))
    (two-keys c.args.depth (c.args.depth - 1) (as_names c.args.naming.now) (formed c.args.so_far.now)
    (view c.args.value.now)
    (omega (arith, c.if-depth-eq0.false)) c.has_keys.result c.has_keys-2.result c.in_ok-stated.stated c.has_keys.ensures
    c.if-has_keys.false c.has_keys-2.ensures c.if-not-has_keys.false c.in_ok-stated.ensures) c.add_stated.ensures
