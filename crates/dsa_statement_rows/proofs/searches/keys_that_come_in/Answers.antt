use Rattle.dsa_statement_rows.proofs.searches.keys_that_come_in.Goals as goal
use Rattle.std.proofs.Common.{◌≡◌, ◌∙◌, ℕ, List, [], ◌∷◌, ◌++◌, Some, length, inl, inr, sym, ap, ⊎_elim, refl}
use Rattle.std.specs.Prelude.{None, slice_get}
use Rattle.dsa_explore.specs.Stored.{IsOldKey, IsNewKey}

pub returns-clause-new : goal.returns-clause-new
returns-clause-new c old new tried had has nodes front more = inr (record {
  is = sym (ap (λ (l : List (List ℕ)). length l) had);
  keys = has ∙ ap (λ (l : List (List ℕ)). l ++ (7 ∷ []) ∷ []) (sym had);
  nodes = rw (nodes, front) more;
})

pub returns-clause-old : goal.returns-clause-old
returns-clause-old c search tried has = inl (record {
  is = ap (λ (l : List (List ℕ)). slice_get l 1) has;
  keys = refl;
  nodes = refl;
})

pub returns-clause-none : goal.returns-clause-none
returns-clause-none c search tried has = λ stored. ⊎_elim
    (λ (old : IsOldKey search (7 ∷ []) 0 search).
    let clash : None ≡ Some (7 ∷ []) = sym (ap (λ (l : List (List ℕ)). slice_get l 0) has) ∙ old.is in absurd cc)
    (λ (new : IsNewKey search (7 ∷ []) 3 tried 0 search).
    let more : [] ≡ (7 ∷ []) ∷ [] =
    sym has ∙ new.keys ∙ ap (λ (l : List (List ℕ)). l ++ (7 ∷ []) ∷ []) has in absurd cc)
    stored
