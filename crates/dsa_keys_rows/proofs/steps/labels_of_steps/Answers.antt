use Rattle.dsa_keys_rows.proofs.steps.labels_of_steps.Goals as goal
use Rattle.std.proofs.{Common.{Bool, cond, inl, refl, sym, ap, ⊎_elim, arith, lit≤}, lemmas.Bool.{ne_eqb}}

pub returns-clause-fresh : goal.returns-clause-fresh
returns-clause-fresh c = ((λ used. ⊎_elim (λ is. omega (arith, is)) (λ none. none) used), tt)

pub returns-clause-in_use : goal.returns-clause-in_use
returns-clause-in_use c fresh = fresh.0 (inl refl)

pub returns-clause-twice : goal.returns-clause-twice
returns-clause-twice c fresh = fresh.1.0 (inl refl)

pub returns-clause-all_in_use : goal.returns-clause-all_in_use
returns-clause-all_in_use c name below = inl refl

pub returns-clause-one_is_not : goal.returns-clause-one_is_not
returns-clause-one_is_not c used = ⊎_elim (λ is. omega (arith, is)) (λ none. none) (used 1 (lit≤ tt))

pub returns-clause-but_the_next_one : goal.returns-clause-but_the_next_one
returns-clause-but_the_next_one c name below =
    inl (sym (ap (λ (next : Bool). cond next 9 7) (ne_eqb name 20 (λ is. omega (arith, is, below)))))
