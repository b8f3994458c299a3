use Rattle.dsa_tables.proofs.row_names.of_equal_calls.Goals as goal
use Rattle.std.proofs.Common.{◌≡◌, ℕ, List, [], ◌∷◌, ◌++◌, codes, refl, inl, inr, sym, ap, ◌∙◌}
use Rattle.std.proofs.Common.{subst, length, get_or, arith}
use Rattle.dsa_base.specs.Lists.{In}
use Rattle.dsa_book.specs.declared.fate.Fate.TheVariants.{Aborted}
use Rattle.dsa_explore.specs.declared.found.Found.{Found}
use Rattle.dsa_tables.specs.{Naming.{row_name}, Worked.{end_found, tables_on_literals}}

pub returns-clause-first : goal.returns-clause-first
unfolding tables_on_literals row_name
returns-clause-first c = record { before = []; after = _; parts = refl; named = refl; others = λ other i. absurd i }

-- two ends with the same fate
abbrev one : Found
one = end_found 0 (Aborted 10) 4

abbrev other : Found
other = end_found 1 (Aborted 10) 5

called : row_name (codes "x" ∷ codes "x" ∷ []) [] one.finding ≡ codes "x: aborted 10"
unfolding tables_on_literals row_name
called = refl

not-first : (before after : List Found) → one ∷ other ∷ [] ≡ before ++ other ∷ after
    → ((row : Found) → In row before
    → row_name (codes "x" ∷ codes "x" ∷ []) [] row.finding ≡ codes "x: aborted 10" → ⊥) → ⊥
not-first [] after parts others =
    let steps : 4 ≡ 5 = ap (λ (l : List Found). (get_or l 0 one).steps) parts in
    omega (arith, steps)
not-first (row ∷ before) after parts others =
    let same : one ≡ row = ap (λ (l : List Found). get_or l 0 one) parts in
    others row (inl refl)
    (subst (λ (r : Found). row_name (codes "x" ∷ codes "x" ∷ []) [] r.finding ≡ codes "x: aborted 10") same called)

pub returns-clause-second : goal.returns-clause-second
returns-clause-second c = λ first. not-first first.before first.after first.parts first.others

called-else : row_name (codes "x" ∷ []) [] one.finding ≡ codes "x: aborted 10"
unfolding tables_on_literals row_name
called-else = refl

pub returns-clause-none : goal.returns-clause-none
returns-clause-none c = λ row i named.
    elim i [
      | inl same ↦
          let both = sym called-else
          ∙ subst (λ (r : Found). row_name (codes "x" ∷ []) [] r.finding ≡ codes "x: aborted 4") (sym same) named in
          let lengths : 13 ≡ 12 = ap (λ (l : List ℕ). length l) both in
          omega (arith, lengths)
      | inr none ↦ absurd none
    ]
