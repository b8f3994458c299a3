use Rattle.dsa_statement_rows.proofs.walks.rows_of_walks.Goals as goal
use Rattle.std.proofs.Common.{◌≡◌, ◌+◌, ℕ, zero, suc, [], ◌∷◌, Some, inl, inr, refl, ap, subst, sym, ⊎_elim, arith}
use Rattle.std.specs.Prelude.{slice_get}
use Rattle.std.proofs.lemmas.Option.{same_Some}
use Rattle.dsa_explore.specs.declared.found.{Finding.{Finding, TheVariants.{Wait}}, Found.{Found}}
use Rattle.dsa_explore.specs.{Explored.{IsFound}, Sampling.{HaveOneRowEach}}
use Rattle.dsa_explore.specs.WorkedFound.{other_wait, wait_found_after}

-- the label of a wait
awaited : Finding → ℕ
awaited (Wait act label) = label
awaited finding = 0

unlike : (row other : Found) → awaited row.finding ≡ 10 → awaited other.finding ≡ 20 → row.finding ≡ other.finding → ⊥
unlike row other a b same = omega (arith, a, b, ap awaited same)

pub returns-clause-apart : goal.returns-clause-apart
unfolding awaited
returns-clause-apart c i j row other at here same = go i j at here
  where
    first : (r : Found) → Some (wait_found_after 3) ≡ Some r → awaited r.finding ≡ 10
    first r e = ap (λ (z : Found). awaited z.finding) (sym (same_Some (wait_found_after 3) r e))

    second : (r : Found) → Some other_wait ≡ Some r → awaited r.finding ≡ 20
    second r e = ap (λ (z : Found). awaited z.finding) (sym (same_Some other_wait r e))

    go : (i j : ℕ) → slice_get (wait_found_after 3 ∷ other_wait ∷ []) i ≡ Some row
        → slice_get (wait_found_after 3 ∷ other_wait ∷ []) j ≡ Some other → i ≡ j
    go zero zero at here = refl
    go zero (suc zero) at here = absurd (unlike row other (first row at) (second other here) same)
    go (suc zero) zero at here = absurd (unlike other row (first other here) (second row at) (sym same))
    go (suc zero) (suc zero) at here = refl
    go zero (suc (suc j)) at here = absurd cc
    go (suc zero) (suc (suc j)) at here = absurd cc
    go (suc (suc i)) j at here = absurd cc

pub returns-clause-twice : goal.returns-clause-twice
returns-clause-twice c apart =
    let same = apart 0 1 (wait_found_after 3) (wait_found_after 3) refl refl refl in
    omega (arith, same)

found : (more : ℕ) → IsFound (wait_found_after 2 ∷ []) (2 + more) (Wait 2 10)
found more = record { row = wait_found_after 2; within = inl refl; same = refl; soon = omega arith }

pub returns-clause-fewer : goal.returns-clause-fewer
returns-clause-fewer c = record {
  each = λ row within. inr within;
  kept = λ row within. ⊎_elim
      (λ (e : wait_found_after 3 ≡ row). subst (λ (r : Found). IsFound (wait_found_after 2 ∷ []) r.steps r.finding) e
      (found 1)) (λ none. absurd none) within;
  added = λ row within. ⊎_elim
      (λ (e : wait_found_after 2 ≡ row). subst (λ (r : Found). IsFound (wait_found_after 2 ∷ []) r.steps r.finding) e
      (found 0)) (λ none. absurd none) within;
  once = λ before. only;
}
  where
    only : HaveOneRowEach (wait_found_after 2 ∷ [])
    only zero zero row other at here same = refl
    only zero (suc j) row other at here same = absurd cc
    only (suc i) j row other at here same = absurd cc

pub returns-clause-not_more : goal.returns-clause-not_more
returns-clause-not_more c merged =
    let kept = merged.kept (wait_found_after 2) (inl refl) in
    ⊎_elim (λ (e : wait_found_after 3 ≡ kept.row). omega (arith, kept.soon, ap (λ (r : Found). r.steps) e))
    (λ none. none) kept.within

pub returns-clause-not_left_out : goal.returns-clause-not_left_out
returns-clause-not_left_out c merged = (merged.added (wait_found_after 2) (inl refl)).within
