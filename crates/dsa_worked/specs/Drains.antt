-- Worked histories of the Drain operation: what a Drain waits for, what it does not wait for, and one at a time on an
-- engine.
use Rattle.std.specs.Prelude.{ℕ, List, [], ◌∷◌}
use Rattle.dsa_desc.specs.declared.Descriptor.{Descriptor}
use Rattle.dsa_book.specs.declared.answer.DispatchAnswer.TheVariants.{Taken, Idle}
use Rattle.dsa_book.specs.declared.answer.FinishAnswer.TheVariants.{NotReady}
use Rattle.dsa_book.specs.declared.{answer.SubmitAnswer.TheVariants.{Accepted}, event.Step.{Step}}
use Rattle.dsa_worked.specs.Setup.{no_op, batch, drain, fenced, ticket, enqcmd_unlimited, dispatched, finished}
use Rattle.dsa_worked.specs.Setup.{to_dedicated, step_of_a_take, member, begun, ended}

-- a descriptor comes to queue 0 under this PASID, with this name and the cell of that number
abbrev comes : ℕ → Descriptor → ℕ → Step
comes pasid descriptor name = enqcmd_unlimited pasid descriptor (Accepted (ticket name name))

-- ---- what a Drain waits for

-- No-ops and Drains of two PASIDs: the first Drain waits for one No-op, and the second is taken after the first ended
abbrev pub drains_of_two_pasids : List Step
drains_of_two_pasids =
    comes 5 no_op 0 ∷ comes 6 no_op 1 ∷ comes 5 drain 2 ∷ comes 6 drain 3 ∷ step_of_a_take 0 0 0 ∷
    step_of_a_take 0 1 1 ∷
    ended 0 1 1 0x01 ∷ step_of_a_take 0 2 2 ∷ finished 0 (ticket 2 2) NotReady ∷ dispatched 0 Idle ∷ ended 0 0 0 0x01 ∷
    dispatched 0 Idle ∷ ended 0 2 2 0x01 ∷ step_of_a_take 0 3 3 ∷ ended 0 3 3 0x01 ∷ []

-- a Drain waits for a batch, whose members end before it
abbrev pub drain_behind_a_batch : List Step
drain_behind_a_batch =
    comes 5 (batch 2) 0 ∷ step_of_a_take 0 0 0 ∷ member 0 no_op 1 1 ∷ comes 5 drain 2 ∷ step_of_a_take 0 2 2 ∷
    finished 0 (ticket 2 2) NotReady ∷ begun 0 1 1 ∷ ended 0 1 1 0x01 ∷ member 0 no_op 1 3 ∷ begun 0 1 3 ∷
    ended 0 1 3 0x01 ∷ finished 0 (ticket 2 2) NotReady ∷ ended 0 0 0 0x01 ∷ ended 0 2 2 0x01 ∷ []

-- where two engines have one group: a Drain waits for a No-op that the other engine has
abbrev pub drain_behind_another_engine : List Step
drain_behind_another_engine =
    comes 5 no_op 0 ∷ comes 5 drain 1 ∷ step_of_a_take 0 0 0 ∷ dispatched 1 (Taken (ticket 1 1) 0) ∷
    finished 1 (ticket 1 1) NotReady ∷ ended 0 0 0 0x01 ∷ ended 1 1 1 0x01 ∷ []

-- ---- what it does not wait for

-- a No-op of another PASID
abbrev pub drain_beside_another_pasid : List Step
drain_beside_another_pasid = comes 5 no_op 0 ∷ comes 6 drain 1 ∷ step_of_a_take 0 0 0 ∷ step_of_a_take 0 1 1
    ∷ ended 0 1 1 0x01 ∷ []

-- two No-ops of another queue under the same PASID, of which one runs and one waits there
abbrev pub drain_beside_another_queue : List Step
drain_beside_another_queue =
    to_dedicated no_op 0 0 ∷ to_dedicated no_op 1 1 ∷ comes 7 drain 2 ∷ step_of_a_take 1 0 0 ∷ step_of_a_take 0 2 2 ∷
    ended 0 2 2 0x01 ∷ []

-- No-ops that came behind it, of which one runs and one waits for a slot
abbrev pub drain_before_others : List Step
drain_before_others =
    comes 5 drain 0 ∷ comes 5 no_op 1 ∷ comes 5 no_op 2 ∷ step_of_a_take 0 0 0 ∷ step_of_a_take 0 1 1 ∷
    dispatched 0 Idle ∷
    ended 0 0 0 0x01 ∷ step_of_a_take 0 2 2 ∷ []

-- a batch that came behind it, with a member that runs
abbrev pub drain_before_a_batch : List Step
drain_before_a_batch =
    comes 5 drain 0 ∷ comes 5 (batch 2) 1 ∷ step_of_a_take 0 0 0 ∷ step_of_a_take 0 1 1 ∷ member 0 no_op 2 2 ∷
    begun 0 2 2 ∷
    ended 0 0 0 0x01 ∷ []

-- ---- one at a time

-- where two engines have one group: each takes one of two Drains, and the second waits for the first
abbrev pub drains_of_two_engines : List Step
drains_of_two_engines =
    comes 5 drain 0 ∷ comes 5 drain 1 ∷ step_of_a_take 0 0 0 ∷ dispatched 0 Idle ∷ dispatched 1 (Taken (ticket 1 1) 0) ∷
    finished 1 (ticket 1 1) NotReady ∷ ended 0 0 0 0x01 ∷ ended 1 1 1 0x01 ∷ []

-- where an engine has two queues: a second Drain stands before one of them, and a No-op before the other
abbrev pub drains_of_two_queues : List Step
drains_of_two_queues =
    comes 5 drain 0 ∷ comes 6 drain 1 ∷ to_dedicated no_op 2 2 ∷ step_of_a_take 0 0 0 ∷
    dispatched 0 (Taken (ticket 2 2) 1) ∷ dispatched 0 Idle ∷ ended 0 2 2 0x01 ∷ dispatched 0 Idle ∷ []

-- ---- Drains that are not well formed

-- a Drain in a member fails at once, beside a No-op that came before it
abbrev pub drain_in_a_batch : List Step
drain_in_a_batch =
    comes 5 no_op 0 ∷ step_of_a_take 0 0 0 ∷ comes 5 (batch 2) 1 ∷ step_of_a_take 0 1 1 ∷ member 0 drain 2 2 ∷
    begun 0 2 2 ∷
    ended 0 2 2 0x10 ∷ member 0 no_op 2 3 ∷ begun 0 2 3 ∷ ended 0 2 3 0x01 ∷ ended 0 1 1 0x05 ∷ []

-- a Drain with a fence fails at once, beside a No-op that came before it
abbrev pub fenced_drain_does_not_wait : List Step
fenced_drain_does_not_wait =
    comes 5 no_op 0 ∷ step_of_a_take 0 0 0 ∷ comes 5 (fenced drain) 1 ∷ step_of_a_take 0 1 1 ∷ ended 0 1 1 0x11 ∷ []

-- Drains with a fence are taken before and after a Drain, which waits for the one before it
abbrev pub fenced_drains_beside_a_drain : List Step
fenced_drains_beside_a_drain =
    comes 5 (fenced drain) 0 ∷ comes 5 drain 1 ∷ comes 5 (fenced drain) 2 ∷ step_of_a_take 0 0 0 ∷
    step_of_a_take 0 1 1 ∷
    finished 0 (ticket 1 1) NotReady ∷ ended 0 0 0 0x11 ∷ step_of_a_take 0 2 2 ∷ ended 0 1 1 0x01 ∷ ended 0 2 2 0x11
    ∷ []
