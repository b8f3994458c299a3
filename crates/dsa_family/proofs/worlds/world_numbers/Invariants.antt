use Rattle.std.proofs.Common.{◌≡◌}
use Rattle.std.specs.Prelude.{filter}
use Rattle.dsa_base.specs.Numbers.{numbers_below}
use Rattle.dsa_family.specs.Family.{is_in_world_shard}
use Rattle.dsa_family.proofs.worlds.world_numbers.Given as goal

abbrev pub invariant-loop-world : goal.invariant-loop-world
invariant-loop-world l = l.numbers.items ≡ filter (is_in_world_shard l.shard) (numbers_below l.world)
