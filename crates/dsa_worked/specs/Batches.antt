-- Worked histories of batches, fences and read buffers, each after the set-up.
use Rattle.std.specs.Prelude.{ℕ, List, [], ◌∷◌}
use Rattle.dsa_regs.specs.{declared.{Caps.{Caps}, GroupConfig.{GroupConfig}}, Worked.{caps}}
use Rattle.dsa_book.specs.declared.answer.FetchAnswer.TheVariants.{NoBatch, AllFetched}
use Rattle.dsa_book.specs.declared.answer.StartAnswer.TheVariants.{FenceWait, NoBuffers, Abandoned, Nothing}
use Rattle.dsa_book.specs.declared.answer.{FinishAnswer.TheVariants.{Done, NotReady}, DispatchAnswer.TheVariants.{Idle}}
use Rattle.dsa_book.specs.declared.answer.{SubmitAnswer.TheVariants.{Accepted}, WriteAnswer.TheVariants.{Written}}
use Rattle.dsa_book.specs.declared.event.{Step.{Step}, Portal.TheVariants.{Unlimited}, Kind.TheVariants.{Enqcmd}}
use Rattle.dsa_worked.specs.Setup.{faulted, step_of_a_group_write, to_shared, to_dedicated, step_of_a_take, member}
use Rattle.dsa_worked.specs.Setup.{begun, ended}
use Rattle.dsa_worked.specs.Setup.{no_op, move, batch, fenced, ticket, written, dispatched, step_of_a_fetch, started}
use Rattle.dsa_worked.specs.Setup.{finished}
use Rattle.dsa_worked.specs.Setup.{three_queues}

-- members start while buffers are to be had, and a group does not go past what it is allowed
abbrev pub buffers_of_a_batch : List Step
buffers_of_a_batch =
    to_shared (move 16384) 0 0 ∷ to_shared (move 16384) 1 1 ∷ step_of_a_take 0 0 0 ∷ step_of_a_take 0 1 1 ∷
    to_dedicated (batch 3) 2 2 ∷
    step_of_a_take 1 2 2 ∷ member 1 (move 16384) 3 3 ∷ member 1 (move 16384) 4 4 ∷ member 1 (move 16384) 5 5 ∷
    begun 1 3 3 ∷
    begun 1 4 4 ∷ started 1 NoBuffers ∷ ended 0 0 0 0x01 ∷ begun 1 5 5 ∷ to_shared (move 16384) 0 6 ∷
    dispatched 0 Idle ∷ []

-- a member with a fence starts when all members before it have ended
abbrev pub fence_waits : List Step
fence_waits =
    to_shared (batch 3) 0 0 ∷ step_of_a_take 0 0 0 ∷ member 0 no_op 1 1 ∷ member 0 no_op 2 2 ∷
    member 0 (fenced no_op) 3 3 ∷
    step_of_a_fetch 0 no_op AllFetched ∷ begun 0 1 1 ∷ begun 0 2 2 ∷ started 0 FenceWait ∷ ended 0 2 2 0x01 ∷
    started 0 FenceWait ∷ ended 0 1 1 0x01 ∷ begun 0 3 3 ∷ finished 0 (ticket 0 0) NotReady ∷ ended 0 3 3 0x01 ∷
    ended 0 0 0 0x01 ∷ []

-- a member that fails before a fence abandons the rest of the batch, which fails too
abbrev pub failure_abandons : List Step
failure_abandons =
    to_shared (batch 3) 0 0 ∷ step_of_a_take 0 0 0 ∷ member 0 (move 4096) 1 1 ∷ member 0 (fenced (move 4096)) 2 2 ∷
    begun 0 1 1 ∷
    faulted 0 (ticket 1 1) (Done 0x03) ∷ started 0 (Abandoned 1) ∷ step_of_a_fetch 0 no_op AllFetched ∷
    started 0 Nothing ∷
    ended 0 0 0 0x05 ∷ []

-- batches of 1 and of 9 descriptors, where 2 to 8 are lawful, and one of 8
abbrev pub batch_counts : List Step
batch_counts =
    to_shared (batch 1) 0 0 ∷ step_of_a_take 0 0 0 ∷ step_of_a_fetch 0 no_op NoBatch ∷ ended 0 0 0 0x14 ∷
    to_shared (batch 9) 0 1 ∷
    step_of_a_take 0 0 1 ∷ ended 0 0 1 0x14 ∷ to_shared (batch 8) 0 2 ∷ step_of_a_take 0 0 2 ∷ member 0 no_op 1 3 ∷ []

-- a batch in a batch fails, and with it the batch
abbrev pub batch_in_a_batch : List Step
batch_in_a_batch =
    to_shared (batch 2) 0 0 ∷ step_of_a_take 0 0 0 ∷ member 0 (batch 2) 1 1 ∷ begun 0 1 1 ∷ ended 0 1 1 0x10 ∷
    member 0 no_op 2 2 ∷ begun 0 2 2 ∷ ended 0 2 2 0x01 ∷ ended 0 0 0 0x05 ∷ []

-- where engines have four slots: 8 and 12 buffers are more than 16
abbrev pub more_slots : Caps → Caps
more_slots caps = record caps { slots = 4 }

-- two entries run on each of the two engines where their buffers fit, and a fifth waits for those of another
abbrev pub buffers_of_two_groups : List Step
buffers_of_two_groups =
    to_shared (move 16384) 0 0 ∷ to_shared (move 16384) 1 1 ∷ step_of_a_take 0 0 0 ∷ step_of_a_take 0 1 1 ∷
    to_dedicated (move 16384) 2 2 ∷ to_dedicated (move 16384) 3 3 ∷ step_of_a_take 1 2 2 ∷ step_of_a_take 1 3 3 ∷
    to_dedicated (move 16384) 4 4 ∷ dispatched 1 Idle ∷ ended 0 0 0 0x01 ∷ step_of_a_take 1 4 4 ∷
    to_shared (move 16384) 0 5 ∷
    dispatched 0 Idle ∷ []

-- ---- three groups, each with a queue and an engine, 4 of 16 buffers reserved and 8 allowed

-- a device with three queues, three groups and three engines
abbrev pub three_groups : Caps
three_groups = record caps { queues = 3; groups = 3; engines = 3; total_size = 12 }

-- the first of the groups: queue 0 and engine 0
abbrev one_of_three : GroupConfig
one_of_three = record { queues = 1; engines = 1; reserved = 4; allowed = 8 }

-- each queue and each group is written, and all of it enabled
abbrev pub three_groups_setup : List Step
three_groups_setup = three_queues (
    step_of_a_group_write 0 one_of_three Written ∷
    step_of_a_group_write 1 (record one_of_three { queues = 2; engines = 2 }) Written ∷
    step_of_a_group_write 2 (record one_of_three { queues = 4; engines = 4 }) Written ∷ [])

-- a move that takes four buffers comes to a queue, with this name and the cell of that number
abbrev to : ℕ → ℕ → Step
to queue name = written queue Unlimited (Enqcmd 5) (move 16384) (Accepted (ticket name name))

-- 8 and 4 buffers are in use and 4 are free, but these are reserved for the third group
abbrev pub buffers_reserved_for_another : List Step
buffers_reserved_for_another =
    to 0 0 ∷ to 0 1 ∷ to 1 2 ∷ to 1 3 ∷ to 2 4 ∷ step_of_a_take 0 0 0 ∷ step_of_a_take 0 1 1 ∷ step_of_a_take 1 2 2 ∷
    dispatched 1 Idle ∷
    step_of_a_take 2 4 4 ∷ []
