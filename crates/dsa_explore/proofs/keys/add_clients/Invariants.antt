use Rattle.std.proofs.Common.{◌≡◌, ◌++◌, take}
use Rattle.std.specs.List.{flat_map}
use Rattle.dsa_explore.specs.Keys.{client_bytes}
use Rattle.dsa_explore.proofs.keys.add_clients.Given as goal

-- the bytes of the places before were added
abbrev pub invariant-loop-place : goal.invariant-loop-place
invariant-loop-place l = l.out.items ≡ l.fn.out.items ++ flat_map client_bytes (take l.place-index l.places)
