-- Groups with one change to those of the set-up.
use Rattle.std.specs.Prelude.{ℕ, List, [], ◌∷◌, Option}
use Rattle.dsa_base.specs.Rows.{first_row}
use Rattle.dsa_regs.specs.declared.{Caps.{Caps}, GroupConfig.{GroupConfig}, reasons.CheckReason.{CheckReason}}
use Rattle.dsa_regs.specs.{Config.{groups_rules}, Worked.{first_group, second_group}}

abbrev pub pair : GroupConfig → GroupConfig → List GroupConfig
pair first second = first ∷ second ∷ []

-- the first group as it is
abbrev pub pair_with : GroupConfig → List GroupConfig
pair_with second = pair first_group second

-- both groups, with other queues, or with other engines
abbrev pub pair_of_queues : ℕ → ℕ → List GroupConfig
pair_of_queues first second = pair (record first_group { queues = first }) (record second_group { queues = second })

abbrev pub pair_of_engines : ℕ → ℕ → List GroupConfig
pair_of_engines first second = pair (record first_group { engines = first }) (record second_group { engines = second })

-- three groups, each with the queue and the engine of its number
abbrev pub trio_with : GroupConfig → List GroupConfig
trio_with third = first_group ∷ record first_group { queues = 2; engines = 2 } ∷ third ∷ []

abbrev pub three : List GroupConfig
three = trio_with (record first_group { queues = 4; engines = 4 })

-- what is against these groups, where the queues' sizes add up to so much
abbrev pub groups_reason : Caps → ℕ → List GroupConfig → Option CheckReason
groups_reason caps sizes groups = first_row (groups_rules caps sizes groups)
