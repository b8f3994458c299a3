use Rattle.dsa_statement_rows.proofs.searches.chains_of_strings.Goals as goal
use Rattle.std.proofs.Common.{◌≡◌, ℕ, List, ◌∷◌, [], refl, subst, arith}
use Rattle.dsa_seen.specs.Table.{HasOneNumberEach}

pub returns : goal.returns
returns c = record {
  twice = λ chains are is.
      let once = subst (λ (l : List (List ℕ)). HasOneNumberEach l) are is.once in
      let clash : 0 ≡ 1 = once 0 1 (7 ∷ []) refl refl in
      absurd (omega (arith, clash));
}
