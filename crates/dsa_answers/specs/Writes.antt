-- What a write leaves.
use Rattle.std.specs.Prelude.{List}
use Rattle.dsa_regs.specs.declared.{QueueConfig.{QueueConfig}, GroupConfig.{GroupConfig}}
use Rattle.dsa_book.specs.State.{State}

-- the state with these configurations of its queues, and all else as it was
abbrev pub with_configs : State → List QueueConfig → State
with_configs s configs = record s { work = record s.work { setup = record s.work.setup { configs = configs } } }

-- the state with these configurations of its groups, and all else as it was
abbrev pub with_groups : State → List GroupConfig → State
with_groups s groups = record s { work = record s.work { setup = record s.work.setup { groups = groups } } }
