use Rattle.std.proofs.Common.{◌≡◌, ◌++◌, length, map, IsUtf8}
use Rattle.dsa_family.specs.Places.{keys_of_path}
use Rattle.dsa_family.proofs.places.keys_of_path.Given as goal

abbrev pub invariant-keys : goal.invariant-keys
invariant-keys l =
    (keys_of_path l.fn.path ≡ map (λ key. key.now) l.keys.items ++ keys_of_path l.rest) × IsUtf8 l.rest

abbrev pub decreases-keys : goal.decreases-keys
decreases-keys l = length l.rest
