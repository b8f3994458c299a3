use Rattle.dsa_explore.proofs.worked.bounds_of_the_idle.Goals as goal
use Rattle.std.proofs.Common.{◌≡◌, ℕ, ◌+◌, ◌≤◌, List, [], ◌∷◌, Some, length, inl, inr, refl, sym, ap, arith}
use Rattle.dsa_seen.specs.Table.{HasOneNumberEach}
use Rattle.dsa_base.specs.Lists.{In}
use Rattle.dsa_explore.specs.{Bounds.{CanReachLongKey, MetBounds, met_states, met_key_bytes, met_steps}}
use Rattle.dsa_explore.specs.{Counted.{IsKeyReached}, WorkedSearch.{idle_parties, one_key, quiet_world}}
use Rattle.dsa_explore.specs.declared.{found.Explored.{Explored}}
use Rattle.dsa_explore.proofs.Bounded.{first-key, first-state}

-- each key is the one
no-second : (keys : List (List ℕ)) (moves : ℕ) → HasOneNumberEach keys
    → ((bytes : List ℕ) → In bytes keys → IsKeyReached idle_parties one_key (quiet_world []) moves bytes)
    → length keys ≤ 1
no-second [] moves once reached = omega arith
no-second (k ∷ []) moves once reached = omega arith
no-second (k ∷ l ∷ rest) moves once reached =
    let first = (reached k (inl refl)).same in
    let second = (reached l (inr (inl refl))).same in
    let same : 0 ≡ 1 = once 0 1 (7 ∷ []) (ap (λ b. Some b) (sym first)) (ap (λ b. Some b) (sym second)) in
    absurd (omega (arith, same))

-- and has one byte
short : (most moves : ℕ) → 1 ≤ most → CanReachLongKey idle_parties one_key (quiet_world []) most moves → ⊥
short most moves one can =
    let count : 1 ≡ length can.bytes = ap length can.reached.same in
    omega (arith, one, can.long, count)

pub returns-clause-one_state : goal.returns-clause-one_state
returns-clause-one_state c = first-state idle_parties one_key (quiet_world []) 1 0 refl

pub returns-clause-no_second : goal.returns-clause-no_second
returns-clause-no_second c can = omega (arith, no-second can.keys 5 can.once can.reached, can.count_is)

long-key : (moves : ℕ) → CanReachLongKey idle_parties one_key (quiet_world []) 0 moves
long-key moves = record {
  bytes = 7 ∷ [];
  reached = first-key idle_parties one_key (quiet_world []) moves;
  long = omega arith;
}

pub returns-clause-long : goal.returns-clause-long
returns-clause-long c = long-key 0

pub returns-clause-not_long : goal.returns-clause-not_long
returns-clause-not_long c can = short 1 5 (omega arith) can

pub returns-clause-states : goal.returns-clause-states
returns-clause-states c explored none =
    met_states none (first-state idle_parties one_key (quiet_world []) 1 (explored.depth + 1) refl)

pub returns-clause-key_bytes : goal.returns-clause-key_bytes
returns-clause-key_bytes c explored = met_key_bytes (long-key (explored.depth + 1))

pub returns-clause-steps : goal.returns-clause-steps
returns-clause-steps c explored none =
    let many : 1048576 ≤ 1048576 + explored.depth = omega arith in
    met_steps many

-- a bound of one state and one byte is not met
none-met : (explored : Explored) → explored.depth ≡ 0
    → MetBounds (record { states = 1; key_bytes = 1 }) idle_parties one_key (quiet_world []) 1048575 explored → ⊥
none-met explored none (met_states count can) = omega (arith, no-second can.keys _ can.once can.reached, can.count_is)
none-met explored none (met_key_bytes can) = short 1 _ (omega arith) can
none-met explored none (met_steps many) =
    let more : 1048576 ≤ 1048575 + explored.depth = many in
    omega (arith, none, more)

pub returns-clause-none : goal.returns-clause-none
returns-clause-none c explored none met = none-met explored none met
