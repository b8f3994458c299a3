use Rattle.dsa_explore.proofs.worked.keys_of_the_idle.Goals as goal
use Rattle.std.proofs.Common.{◌≡◌, ℕ, ◌≤◌, List, [], ◌∷◌, Some, length, inl, inr, refl, sym, ap, ⊎_elim, arith, subst}
use Rattle.dsa_seen.specs.Table.{HasOneNumberEach}
use Rattle.dsa_explore.specs.declared.found.Explored.{Explored}
use Rattle.dsa_explore.specs.Counted.{AreKeysReached, CountsStates, IsKeyReached}
use Rattle.dsa_explore.specs.WorkedSearch.{idle_parties, one_key, quiet_world}
use Rattle.dsa_explore.proofs.Reached.{reached-none}

first-reached : (depth : ℕ) → IsKeyReached idle_parties one_key (quiet_world []) depth (7 ∷ [])
first-reached depth = record {
  world = quiet_world [];
  steps = 0;
  reached = reached-none idle_parties (quiet_world []);
  soon = omega arith;
  same = refl;
}

pub returns-clause-one : goal.returns-clause-one
returns-clause-one c = record {
  sound = λ bytes i. ⊎_elim
      (λ (e : 7 ∷ [] ≡ bytes). subst (IsKeyReached idle_parties one_key (quiet_world []) 0) e (first-reached 0))
      (λ j. absurd j) i;
  complete = λ e steps w r. inl refl;
}

pub returns-clause-bounded : goal.returns-clause-bounded
returns-clause-bounded c = record { sound = λ bytes i. absurd i; complete = λ e. absurd cc }

pub returns-clause-left_out : goal.returns-clause-left_out
returns-clause-left_out c are =
    are.complete refl 0 (quiet_world []) (reached-none idle_parties (quiet_world []))

pub returns-clause-another : goal.returns-clause-another
returns-clause-another c are =
    let k = are.sound (8 ∷ []) (inl refl) in
    let same : 7 ∷ [] ≡ 8 ∷ [] = k.same in
    absurd cc

-- each key is the one
only : (explored : Explored) → CountsStates idle_parties one_key (quiet_world []) explored → explored.states ≤ 1
only explored counted = go counted.keys counted.count counted.once counted.reached
  where
    go : (keys : List (List ℕ)) → length keys ≡ explored.states → HasOneNumberEach keys
        → AreKeysReached idle_parties one_key (quiet_world []) explored.depth explored.is_complete keys
        → explored.states ≤ 1
    go [] count once are = omega (arith, count)
    go (k ∷ []) count once are = omega (arith, count)
    go (k ∷ l ∷ rest) count once are =
        let first = (are.sound k (inl refl)).same in
        let second = (are.sound l (inr (inl refl))).same in
        let same : 0 ≡ 1 =
        once 0 1 (7 ∷ []) (ap (λ b. Some b) (sym first)) (ap (λ b. Some b) (sym second)) in
        absurd (omega (arith, same))

pub returns-clause-once : goal.returns-clause-once
returns-clause-once c = only
