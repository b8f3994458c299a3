use Rattle.dsa_statement_rows.proofs.searches.worlds_of_a_search.Goals as goal
use Rattle.std.proofs.Common.{◌≡◌, ℕ, ◌≤◌, zero, suc, false, true, List, [], ◌∷◌, Some, refl, inl, subst, ⊎_elim, arith}
use Rattle.std.specs.Prelude.{slice_get}
use Rattle.std.proofs.lemmas.Option.{same_Some}
use Rattle.dsa_keys.specs.Parties.{World, Stored}
use Rattle.dsa_parties.specs.declared.places.Move.{Move}
use Rattle.dsa_explore.specs.Search.{Space, IsKeyOf, IsStoredWorld}
use Rattle.dsa_statement_rows.specs.Searches.{stored_at}

-- the only world has the only key
keyed : (space : Space ℕ Move) (w : World ℕ) → IsKeyOf space (7 ∷ []) w → (i : ℕ) (bytes : List ℕ) (x : Stored ℕ)
    → slice_get ((7 ∷ []) ∷ []) i ≡ Some bytes → slice_get (stored_at 0 w ∷ []) i ≡ Some x
    → IsKeyOf space bytes x.world
keyed space w key zero bytes x at here = subst (λ (z : Stored ℕ). IsKeyOf space bytes z.world)
    (same_Some (stored_at 0 w) x here)
    (subst (λ (b : List ℕ). IsKeyOf space b w) (same_Some (7 ∷ []) bytes at) key)
keyed space w key (suc i) bytes x at here = absurd cc

pub returns-clause-not_good : goal.returns-clause-not_good
returns-clause-not_good c w fine = let clash : false ≡ true = fine.good.is_good in absurd cc

pub returns-clause-begun : goal.returns-clause-begun
returns-clause-begun c space w fine key = record {
  count = refl;
  keyed = λ i bytes x at here. keyed space w key i bytes x at here;
  levelled = refl;
  worlds = λ x i. ⊎_elim
      (λ (e : stored_at 0 w ≡ x). subst (IsStoredWorld space w) e
      (record { fine = fine; reached = record { moves = []; leads = refl; count = refl } })) (λ none. absurd none) i;
  low = λ x i. ⊎_elim (λ (e : stored_at 0 w ≡ x). subst (λ (z : Stored ℕ). z.level ≤ 0) e (omega arith))
      (λ none. absurd none) i;
  begin = inl refl;
}

pub returns-clause-no_begin : goal.returns-clause-no_begin
returns-clause-no_begin c search is = is.table_is.begin
