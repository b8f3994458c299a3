-- Worked histories of batches beside other work: what a batch waits for, what marks it as failed,
-- fences, and the limits of its queue.
use Rattle.std.specs.Prelude.{List, [], ◌∷◌, ◌++◌}
use Rattle.dsa_regs.specs.Worked.{shared_queue, dedicated_queue, first_group, second_group}
use Rattle.dsa_regs.specs.declared.Command.TheVariants.{AbortAll, AbortWq}
use Rattle.dsa_book.specs.declared.answer.FetchAnswer.TheVariants.{Fetched, NoBatch, AllFetched}
use Rattle.dsa_book.specs.declared.answer.StartAnswer.TheVariants.{FenceWait, NoBuffers, Abandoned, Nothing}
use Rattle.dsa_book.specs.declared.answer.{FinishAnswer.TheVariants.{Done, NotReady}, DispatchAnswer.TheVariants.{Idle}}
use Rattle.dsa_book.specs.declared.{answer.IssueAnswer.TheVariants.{Ended}, event.Step.{Step}}
use Rattle.dsa_worked.specs.Setup.{finished, faulted, issued, configured, enabled, to_shared, to_dedicated}
use Rattle.dsa_worked.specs.Setup.{step_of_a_take}
use Rattle.dsa_worked.specs.Setup.{member, begun, ended}
use Rattle.dsa_worked.specs.Setup.{no_op, drain, move, batch, fenced, ticket, masked, dispatched, step_of_a_fetch}
use Rattle.dsa_worked.specs.Setup.{started}

-- ---- the end of a batch

-- a batch of two: members still to be fetched, a member that waits, and one that runs each keep it from ending
abbrev pub batch_is_not_ready : List Step
batch_is_not_ready =
    to_shared (batch 2) 0 0 ∷ step_of_a_take 0 0 0 ∷ finished 0 (ticket 0 0) NotReady ∷ member 0 no_op 1 1 ∷
    begun 0 1 1 ∷
    ended 0 1 1 0x01 ∷ finished 0 (ticket 0 0) NotReady ∷ member 0 no_op 1 2 ∷ finished 0 (ticket 0 0) NotReady ∷
    begun 0 1 2 ∷ finished 0 (ticket 0 0) NotReady ∷ ended 0 1 2 0x01 ∷ faulted 0 (ticket 0 0) (Done 0x01) ∷
    step_of_a_fetch 0 no_op NoBatch ∷ started 0 Nothing ∷ []

-- while a batch is open, one that is not well formed is taken and ends, and one that is well formed waits
abbrev pub batches_beside_a_batch : List Step
batches_beside_a_batch =
    to_shared (batch 2) 0 0 ∷ step_of_a_take 0 0 0 ∷ to_shared (batch 1) 1 1 ∷ step_of_a_take 0 1 1 ∷
    member 0 no_op 2 2 ∷
    ended 0 1 1 0x14 ∷ to_shared (batch 2) 1 3 ∷ dispatched 0 Idle ∷ member 0 (fenced no_op) 3 4 ∷ begun 0 2 2 ∷
    ended 0 2 2 0x01 ∷ begun 0 3 4 ∷ ended 0 3 4 0x01 ∷ ended 0 0 0 0x01 ∷ step_of_a_take 0 1 3 ∷ []

-- a submitted Move fails beside a batch, and a member of another engine's batch
abbrev pub failures_beside_a_batch : List Step
failures_beside_a_batch =
    to_shared (batch 2) 0 0 ∷ step_of_a_take 0 0 0 ∷ to_shared (move 4096) 1 1 ∷ step_of_a_take 0 1 1 ∷
    to_dedicated (batch 2) 2 2 ∷
    step_of_a_take 1 2 2 ∷ faulted 0 (ticket 1 1) (Done 0x03) ∷ member 1 (move 4096) 3 3 ∷ begun 1 3 3 ∷
    faulted 1 (ticket 3 3) (Done 0x03) ∷ member 0 (fenced no_op) 4 4 ∷ begun 0 4 4 ∷ ended 0 4 4 0x01 ∷
    member 0 no_op 4 5 ∷ begun 0 4 5 ∷ ended 0 4 5 0x01 ∷ ended 0 0 0 0x01 ∷ member 1 no_op 0 6 ∷ begun 1 0 6 ∷
    ended 1 0 6 0x01 ∷ ended 1 2 2 0x05 ∷ []

-- ---- fences

-- a batch of five: the first member fails, and the fence of the second abandons it with the two
-- behind it; the fifth is not fetched
abbrev pub three_are_abandoned : List Step
three_are_abandoned =
    to_shared (batch 5) 0 0 ∷ step_of_a_take 0 0 0 ∷ member 0 (move 4096) 1 1 ∷ member 0 (fenced no_op) 2 2 ∷
    member 0 (fenced no_op) 3 3 ∷ member 0 no_op 4 4 ∷ begun 0 1 1 ∷ faulted 0 (ticket 1 1) (Done 0x03) ∷
    started 0 (Abandoned 3) ∷ step_of_a_fetch 0 no_op AllFetched ∷ started 0 Nothing ∷ ended 0 0 0 0x05 ∷ []

-- one member has failed and another runs: the fence waits for it, and then abandons
abbrev pub fence_waits_behind_a_failure : List Step
fence_waits_behind_a_failure =
    to_shared (batch 3) 0 0 ∷ step_of_a_take 0 0 0 ∷ member 0 (move 4096) 1 1 ∷ member 0 no_op 2 2 ∷
    member 0 (fenced no_op) 3 3 ∷ begun 0 1 1 ∷ begun 0 2 2 ∷ faulted 0 (ticket 1 1) (Done 0x03) ∷ started 0 FenceWait ∷
    ended 0 2 2 0x01 ∷ started 0 (Abandoned 1) ∷ ended 0 0 0 0x05 ∷ []

-- a member with no fence starts behind a failure, and fails no more than its batch
abbrev pub no_fence_behind_a_failure : List Step
no_fence_behind_a_failure =
    to_shared (batch 2) 0 0 ∷ step_of_a_take 0 0 0 ∷ member 0 (move 4096) 1 1 ∷ begun 0 1 1 ∷
    faulted 0 (ticket 1 1) (Done 0x03) ∷ member 0 no_op 1 2 ∷ begun 0 1 2 ∷ ended 0 1 2 0x01 ∷ ended 0 0 0 0x05 ∷ []

-- a fence counts on an operation that is not supported: it waits, and then starts and fails
abbrev pub fence_on_an_unsupported_operation : List Step
fence_on_an_unsupported_operation =
    to_shared (batch 2) 0 0 ∷ step_of_a_take 0 0 0 ∷ member 0 no_op 1 1 ∷ member 0 (fenced drain) 2 2 ∷ begun 0 1 1 ∷
    started 0 FenceWait ∷ ended 0 1 1 0x01 ∷ begun 0 2 2 ∷ ended 0 2 2 0x10 ∷ ended 0 0 0 0x05 ∷ []

-- the set-up with four read buffers for the first group, where a Move of four pages needs them all
abbrev pub few_buffers : List Step
few_buffers = configured shared_queue dedicated_queue (record first_group { allowed = 4 }) second_group ++ enabled

-- a Move has all buffers, and a batch has a first member and a fenced Move
abbrev behind_a_move : Step → List Step
behind_a_move first_member =
    to_shared (move 16384) 0 0 ∷ step_of_a_take 0 0 0 ∷ to_shared (batch 2) 1 1 ∷ step_of_a_take 0 1 1 ∷ first_member ∷
    member 0 (fenced (move 16384)) 3 3 ∷ begun 0 2 2 ∷ []

-- with few buffers: the fenced Move waits for its fence first, and then for buffers
abbrev pub fence_before_buffers : List Step
fence_before_buffers =
    behind_a_move (step_of_a_fetch 0 no_op (Fetched (ticket 2 2)))
    ++ started 0 FenceWait ∷ ended 0 2 2 0x01 ∷ started 0 NoBuffers ∷ ended 0 0 0 0x01 ∷ begun 0 3 3 ∷ []

-- with few buffers: the first member fails, and the fenced Move is abandoned with no buffers to be had
abbrev pub failure_before_buffers : List Step
failure_before_buffers =
    behind_a_move (step_of_a_fetch 0 drain (Fetched (ticket 2 2)))
    ++ finished 0 (ticket 2 2) (Done 0x10) ∷ started 0 (Abandoned 1) ∷ ended 0 1 1 0x05 ∷ []

-- ---- limits of a queue

-- the set-up with a first queue whose batches have at most 2 descriptors and whose transfers have at most 4096 bytes
abbrev pub small_limits : List Step
small_limits =
    configured (record shared_queue {
      max_batch_shift = 1;
      max_xfer_shift =
          12;
    }) dedicated_queue first_group second_group ++ enabled

-- with these limits: transfers and batches of both queues, and a member, whose limits are those of its queue
abbrev pub limits_of_a_queue : List Step
limits_of_a_queue =
    to_shared (move 4097) 0 0 ∷ step_of_a_take 0 0 0 ∷ faulted 0 (ticket 0 0) (Done 0x13) ∷ to_shared (move 4096) 0 1 ∷
    step_of_a_take 0 0 1 ∷ ended 0 0 1 0x01 ∷ to_shared (batch 3) 0 2 ∷ step_of_a_take 0 0 2 ∷ ended 0 0 2 0x14 ∷
    to_dedicated (move 4097) 0 3 ∷ step_of_a_take 1 0 3 ∷ ended 1 0 3 0x01 ∷ to_shared (batch 2) 0 4 ∷
    step_of_a_take 0 0 4 ∷
    member 0 (move 4097) 1 5 ∷ begun 0 1 5 ∷ ended 0 1 5 0x13 ∷ []

-- ---- aborts across queues and engines

-- both queues hold an entry, and both engines a batch with a member
abbrev entries_everywhere : List Step
entries_everywhere =
    to_shared (batch 2) 0 0 ∷ step_of_a_take 0 0 0 ∷ member 0 no_op 1 1 ∷ to_dedicated (batch 2) 2 2 ∷
    step_of_a_take 1 2 2 ∷
    member 1 no_op 3 3 ∷ to_dedicated no_op 4 4 ∷ to_shared no_op 5 5 ∷ []

-- all of it is aborted, and both notes go
abbrev pub abort_of_all_lists : List Step
abort_of_all_lists =
    entries_everywhere
    ++ issued AbortAll (Ended 6) ∷ step_of_a_fetch 0 no_op NoBatch ∷ step_of_a_fetch 1 no_op NoBatch ∷
    started 0 Nothing ∷
    to_shared no_op 0 6 ∷ []

-- what came through queue 1 is aborted, and the batch of the other engine goes on
abbrev pub abort_beside_a_batch : List Step
abort_beside_a_batch =
    entries_everywhere
    ++ issued (AbortWq (masked 2)) (Ended 3) ∷ step_of_a_fetch 1 no_op NoBatch ∷ member 0 no_op 2 6 ∷ []
