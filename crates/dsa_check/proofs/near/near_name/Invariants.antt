use Rattle.std.proofs.Common.{◌≡◌, Bor, List, ℕ, drop, map, option_map}
use Rattle.dsa_check.specs.{Reasons.{distance_of, nearest_below}, Warnings.{near_name}}
use Rattle.dsa_check.proofs.near.near_name.Given as goal

abbrev pub invariant-loop-name : goal.invariant-loop-name
invariant-loop-name l =
    nearest_below (λ name. distance_of name l.key) l.least (option_map (λ (name : Bor (List ℕ)). name.now) l.near)
    (map (λ (name : Bor (List ℕ)). name.now) (drop l.name-index l.names))
    ≡ near_name (map (λ (name : Bor (List ℕ)). name.now) l.names) l.key
