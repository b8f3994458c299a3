-- Worked histories of entries beside one another in an engine: of two queues, of two PASIDs, in either order.
use Rattle.std.specs.Prelude.{ℕ, List, [], ◌∷◌, Option, option_map}
use Rattle.dsa_desc.specs.declared.Descriptor.{Descriptor}
use Rattle.dsa_regs.specs.Worked.{caps, shared_queue}
use Rattle.dsa_store.specs.Content.{Content}
use Rattle.dsa_book.specs.Machine.{replay}
use Rattle.dsa_regs.specs.declared.Command.TheVariants.{AbortPasid, DisableWq}
use Rattle.dsa_regs.specs.declared.Fault.TheVariants.{Locked}
use Rattle.dsa_book.specs.declared.answer.DispatchAnswer.TheVariants.{Taken}
use Rattle.dsa_book.specs.declared.answer.{IssueAnswer.TheVariants.{Ended}, SubmitAnswer.TheVariants.{Accepted}}
use Rattle.dsa_book.specs.declared.{answer.WriteAnswer.TheVariants.{Refused}, event.Step.{Step}}
use Rattle.dsa_worked.specs.Setup.{no_op, batch, drain, ticket, enqcmd_unlimited, dispatched, issued, obeyed, masked}
use Rattle.dsa_worked.specs.Setup.{step_of_a_queue_write, to_dedicated, step_of_a_take, member, ended}

-- a descriptor comes to queue 0 under this PASID, with this name and the cell of that number
abbrev comes_under : ℕ → Descriptor → ℕ → Step
comes_under pasid descriptor name = enqcmd_unlimited pasid descriptor (Accepted (ticket name name))

-- all lists of the device after these steps, by number
abbrev pub content_there : List Step → Option Content
content_there steps = option_map (λ s. s.work.content) (replay caps steps)

-- ---- batches

-- where an engine has two queues: a batch of queue 1 is taken after an entry of queue 0 that came before it
abbrev pub batch_after_an_earlier_entry : List Step
batch_after_an_earlier_entry =
    comes_under 5 no_op 0 ∷ to_dedicated (batch 2) 1 1 ∷ step_of_a_take 0 0 0 ∷ dispatched 0 (Taken (ticket 1 1) 1) ∷
    member 0 no_op 2 2 ∷ []

-- and here after an entry of queue 0 that came later
abbrev pub batch_after_a_later_entry : List Step
batch_after_a_later_entry =
    to_dedicated (batch 2) 0 0 ∷ comes_under 5 no_op 1 ∷ step_of_a_take 0 1 1 ∷ dispatched 0 (Taken (ticket 0 0) 1) ∷
    member 0 no_op 2 2 ∷ []

-- the batch is aborted beside the No-op, and the engine takes another batch
abbrev pub abort_of_a_batch_beside_an_entry : List Step
abort_of_a_batch_beside_an_entry =
    comes_under 6 no_op 0 ∷ comes_under 5 (batch 2) 1 ∷ step_of_a_take 0 0 0 ∷ step_of_a_take 0 1 1 ∷
    issued (AbortPasid 5) (Ended 1) ∷ comes_under 5 (batch 2) 2 ∷ step_of_a_take 0 2 2 ∷ member 0 no_op 3 3 ∷ []

-- the No-op is aborted beside the batch, which goes on
abbrev pub abort_of_an_entry_beside_a_batch : List Step
abort_of_an_entry_beside_a_batch =
    comes_under 6 no_op 0 ∷ comes_under 5 (batch 2) 1 ∷ step_of_a_take 0 0 0 ∷ step_of_a_take 0 1 1 ∷
    issued (AbortPasid 6) (Ended 1) ∷ member 0 no_op 2 2 ∷ []

-- ---- Drains

-- a No-op of a greater PASID came before a Drain
abbrev pub drain_beside_a_greater_pasid : List Step
drain_beside_a_greater_pasid =
    comes_under 6 no_op 0 ∷ comes_under 5 drain 1 ∷ step_of_a_take 0 0 0 ∷ step_of_a_take 0 1 1 ∷ ended 0 1 1 0x01 ∷ []

-- a No-op of queue 0 came before a Drain of queue 1 under the same PASID
abbrev pub drain_beside_a_lower_queue : List Step
drain_beside_a_lower_queue =
    comes_under 7 no_op 0 ∷ to_dedicated drain 1 1 ∷ step_of_a_take 0 0 0 ∷ step_of_a_take 1 1 1 ∷ ended 1 1 1 0x01 ∷ []

-- ---- writes

-- while the device is On, a queue that is Off keeps its size: it is locked against a greater one too
abbrev pub a_greater_size_is_locked : List Step
a_greater_size_is_locked =
    obeyed (DisableWq (masked 1)) ∷ step_of_a_queue_write 0 (record shared_queue { size = 5 }) (Refused Locked) ∷ []
