-- Which of all walks are made, as a text.
use Rattle.std.specs.Prelude.{ℕ, ◌+◌, ◌==◌, nat_lt, List, drop, position, take, Option, Some, None, option_and_then}
use Rattle.dsa_base.specs.Rows.{when}
use Rattle.dsa_draw.specs.Ranges.{digits_number}
use Rattle.dsa_cli.specs.declared.shard.Shard.{Shard}

-- all walks
abbrev pub whole_shard : Shard
whole_shard = record { number = 0; count = 1 }

-- the shard of this number, of so many
abbrev pub shard_between : ℕ → ℕ → Option Shard
shard_between number count = when (nat_lt number count) (record { number = number; count = count })

abbrev pub shard_of_numbers : Option ℕ → Option ℕ → Option Shard
shard_of_numbers number count = option_and_then (λ a. option_and_then (λ b. shard_between a b) count) number

-- the first slash has this place
abbrev pub shard_at : Option ℕ → List ℕ → Option Shard
shard_at None text = None
shard_at (Some place) text =
    shard_of_numbers (digits_number (take place text)) (digits_number (drop (place + 1) text))

-- `I/K`, where I is below K
abbrev pub shard_of_text : List ℕ → Option Shard
shard_of_text text = shard_at (position (λ byte. byte == 47) text) text
