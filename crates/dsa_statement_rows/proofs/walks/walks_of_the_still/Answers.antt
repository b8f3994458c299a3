use Rattle.dsa_statement_rows.proofs.walks.walks_of_the_still.Goals as goal
use Rattle.std.proofs.Common.{◌≡◌, ℕ, max, List, [], ◌∷◌, length, None, Some, refl, subst, ⊎_elim, true, arith}
use Rattle.std.specs.Prelude.{fold, sum}
use Rattle.dsa_base.specs.Lists.{In}
use Rattle.dsa_keys.specs.Parties.{World, Made}
use Rattle.dsa_parties.specs.declared.places.Move.{Move}
use Rattle.dsa_explore.specs.declared.found.Found.{Found}
use Rattle.dsa_explore.specs.Sampling.{AreWalkSteps, IsRandomWalk, LeadsBackAlone, StopsAt}
use Rattle.dsa_explore.specs.WorkedSearch.{quiet_world}
use Rattle.dsa_statement_rows.specs.Searches.{still_space}

-- no step leads anywhere
back : (rows : List Found) (steps : ℕ) (w : World ℕ) → LeadsBackAlone (still_space true) rows steps w
back rows steps w = record {
  back = λ w' move reply step. let none : None ≡ Some w' = step in absurd cc;
  told = λ w' move reply step. let none : None ≡ Some w' = step in absurd cc;
}

some_step : (first last : World ℕ) (rows : List Found) (moves : List (Made Move)) → 1 ≡ length moves
    → AreWalkSteps (still_space true) rows 0 first moves last → ⊥
some_step first last rows [] count made = omega (arith, count)
some_step first last rows (m ∷ moves) count made = let none : None ≡ Some made.0 = made.1.0.leads in absurd cc

pub returns-clause-back : goal.returns-clause-back
returns-clause-back c = back [] 1 (quiet_world [])

pub returns-clause-no_step : goal.returns-clause-no_step
returns-clause-no_step c first rows set_up walk = some_step first walk.last rows walk.moves walk.count walk.made

still : (set_up : ℕ) → IsRandomWalk (still_space true) (quiet_world []) set_up [] 0
still set_up = record {
  moves = [];
  last = quiet_world [];
  made = refl;
  count = refl;
  stops = StopsAt.stops_at_end (back [] 1 (quiet_world []));
}

pub returns-clause-none : goal.returns-clause-none
returns-clause-none c = still 4

pub returns-clause-full : goal.returns-clause-full
returns-clause-full c first = StopsAt.stops_at_full_history (omega arith)

zeros : (n : ℕ) → In n (0 ∷ 0 ∷ 0 ∷ []) → IsRandomWalk (still_space true) (quiet_world []) 4 [] n
zeros n within = ⊎_elim (λ e. here n e)
    (λ i. ⊎_elim (λ e. here n e) (λ j. ⊎_elim (λ e. here n e) (λ none. absurd none) j) i) within
  where
    here : (n : ℕ) → 0 ≡ n → IsRandomWalk (still_space true) (quiet_world []) 4 [] n
    here n e = subst (λ (k : ℕ). IsRandomWalk (still_space true) (quiet_world []) 4 [] k) e (still 4)

pub returns-clause-three : goal.returns-clause-three
returns-clause-three c = record {
  lengths = 0 ∷ 0 ∷ 0 ∷ [];
  count_is = refl;
  each = zeros;
  in_all = refl;
  at_most = refl;
}

deeper : (lengths : List ℕ) → length lengths ≡ 2 → 0 ≡ sum lengths → 1 ≡ fold max 0 lengths → ⊥
deeper [] count none deep = omega (arith, count)
deeper (a ∷ []) count none deep = omega (arith, count)
deeper (a ∷ b ∷ []) count none deep = omega (arith, none, deep)
deeper (a ∷ b ∷ x ∷ xs) count none deep = omega (arith, count)

pub returns-clause-not_two : goal.returns-clause-not_two
returns-clause-not_two c walks = deeper walks.lengths walks.count_is walks.in_all walks.at_most
