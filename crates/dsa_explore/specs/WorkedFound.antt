-- What searches found, of which the rows speak.
use Rattle.std.proofs.Common.{arith}
use Rattle.std.specs.Prelude.{ℕ, Bool, false, [], ◌∷◌, None}
use Rattle.std.specs.declared.alloc.Global.{Global}
use Rattle.dsa_parties.specs.Worked.{vector_in}
use Rattle.dsa_explore.specs.declared.found.{Explored.{Explored}, Found.{Found}}
use Rattle.dsa_explore.specs.declared.found.Finding.TheVariants.{Wait}

-- a wait of act 2 for the entry with the label 10, after so many steps
abbrev pub wait_found_after : ℕ → Found
wait_found_after steps = record { finding = Wait 2 10; steps = steps }

-- another wait
abbrev pub other_wait : Found
other_wait = record { finding = Wait 2 20; steps = 3 }

-- a search that stored no state, tried so many steps, and found no row
abbrev pub nothing_explored : Global → ℕ → ℕ → Bool → Explored
nothing_explored memory tried depth is_complete = record {
  rows = vector_in memory [] (omega arith);
  states = 0;
  tried = tried;
  depth = depth;
  is_complete = is_complete;
  ends = None;
}

-- the same with a row
abbrev pub wait_explored : Global → Explored
wait_explored memory = record (nothing_explored memory 0 0 false) {
  rows = vector_in memory (wait_found_after 3 ∷ []) (omega arith);
}
