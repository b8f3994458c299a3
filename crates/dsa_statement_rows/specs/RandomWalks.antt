-- Which walks the rows speak of.
use Rattle.std.specs.Prelude.{ℕ}
use Rattle.dsa_explore.specs.declared.sampling.Walks.{Walks}

-- of so many walks with seed 7, this shard of so many
abbrev pub walks_in_shard : (count shard shards : ℕ) → Walks
walks_in_shard count shard shards = record { count = count; seed = 7; shard = shard; shards = shards }
