-- Worked histories of devices that have not as many queues as engines, nor as many of these as groups.
use Rattle.std.specs.Prelude.{ℕ, List, [], ◌∷◌, ◌++◌, replicate, Option, None, option_map}
use Rattle.dsa_regs.specs.declared.Command.TheVariants.{EnableDevice, EnableWq, ResetWq, AbortPasid}
use Rattle.dsa_regs.specs.declared.{Caps.{Caps}, QueueConfig.{QueueConfig}, GroupConfig.{GroupConfig}}
use Rattle.dsa_regs.specs.declared.Fault.TheVariants.{BadQueue, BadIndex, Locked}
use Rattle.dsa_regs.specs.{declared.Phase.{Phase, TheVariants.{Off}}, Config.{zero_group, zero_queue}}
use Rattle.dsa_regs.specs.Worked.{caps, shared_queue}
use Rattle.dsa_book.specs.declared.answer.DispatchAnswer.TheVariants.{Taken, Idle}
use Rattle.dsa_book.specs.declared.answer.FetchAnswer.TheVariants.{NoBatch}
use Rattle.dsa_book.specs.declared.answer.{FinishAnswer.TheVariants.{Gone}, StartAnswer.TheVariants.{Nothing}}
use Rattle.dsa_book.specs.declared.answer.{SubmitAnswer.TheVariants.{Accepted}, IssueAnswer.TheVariants.{Ended}}
use Rattle.dsa_book.specs.declared.answer.{WriteAnswer.TheVariants.{Written, Refused}}
use Rattle.dsa_book.specs.declared.event.{Step.{Step}, Portal.TheVariants.{Limited}, Kind.TheVariants.{Enqcmd}}
use Rattle.dsa_book.specs.{Machine.{replay}, State.{State}, Work.{all_used}}
use Rattle.dsa_desc.specs.declared.Descriptor.{Descriptor}
use Rattle.dsa_worked.specs.Setup.{no_op, move, batch, ticket, written, dispatched, step_of_a_fetch, started, finished}
use Rattle.dsa_worked.specs.Setup.{issued, step_of_a_queue_write, step_of_a_group_write, member, begun, ended, obeyed}
use Rattle.dsa_worked.specs.Setup.{step_of_a_refusal, masked}

-- ---- devices

-- the largest batch and the largest transfer, as powers of two
abbrev pub shifts : ℕ → ℕ → Caps
shifts batch transfer = record caps { max_batch_shift = batch; max_xfer_shift = transfer }

-- seven queues, and fewer of all else
abbrev pub many_queues : Caps
many_queues = record (shifts 4 6) { queues = 7; groups = 2; engines = 1; total_size = 4; read_buffers = 5; slots = 3 }

-- seven engines, and fewer of all else
abbrev pub many_engines : Caps
many_engines = record (shifts 1 3) { queues = 1; groups = 1; engines = 7; total_size = 2; read_buffers = 4; slots = 1 }

-- eight groups, and fewer of all else
abbrev pub many_groups : Caps
many_groups = record (shifts 2 4) { queues = 3; groups = 8; engines = 2; total_size = 5; read_buffers = 6; slots = 1 }

-- three queues, two engines and one group
abbrev pub three_two_one : Caps
three_two_one = record caps { queues = 3; groups = 1; engines = 2; total_size = 12; slots = 4; max_batch_shift = 5 }

-- ---- set-ups

-- a shared queue of two places, for batches of two and transfers of eight bytes
abbrev pub small_queue : QueueConfig
small_queue = record shared_queue { size = 2; max_batch_shift = 1; max_xfer_shift = 3 }

-- four read buffers for these queues and engines, none of them reserved
abbrev pub of_these : ℕ → ℕ → GroupConfig
of_these queues engines = record { queues = queues; engines = engines; reserved = 0; allowed = 4 }

-- a queue and a group are written, and the device and the queue enabled
abbrev one_queue : ℕ → ℕ → GroupConfig → List Step
one_queue queue group config =
    step_of_a_queue_write queue small_queue Written ∷ step_of_a_group_write group config Written ∷ obeyed EnableDevice ∷
    obeyed (EnableWq queue) ∷ []

-- a descriptor comes to a queue, with this name and the cell of that number
abbrev comes_in : ℕ → Descriptor → ℕ → Step
comes_in queue descriptor name = written queue Limited (Enqcmd 5) descriptor (Accepted (ticket name name))

-- an engine takes the entry with this name and the cell of that number from a queue
abbrev taken : ℕ → ℕ → ℕ → Step
taken engine name queue = dispatched engine (Taken (ticket name name) queue)

-- ---- histories

-- of many queues the last one, with the only engine and the last group
abbrev pub last_of_many_queues : List Step
last_of_many_queues =
    one_queue 6 1 (of_these 64 1) ++
    step_of_a_refusal BadQueue (EnableWq 7) ∷ step_of_a_queue_write 7 small_queue (Refused BadIndex) ∷
    step_of_a_group_write 1 (of_these 64 1) (Refused Locked) ∷
    step_of_a_group_write 2 (of_these 64 1) (Refused BadIndex) ∷ []

-- a batch of two with a member that runs on the only engine, for which an engine that is not there does nothing
abbrev pub engine_beyond_the_last : List Step
engine_beyond_the_last =
    last_of_many_queues ++ comes_in 6 (batch 2) 0 ∷ taken 0 0 6 ∷ member 0 no_op 1 1 ∷ begun 0 1 1 ∷
    finished 1 (ticket 1 1) Gone ∷ started 1 Nothing ∷ step_of_a_fetch 1 no_op NoBatch ∷ dispatched 1 Idle ∷
    comes_in 6 (move 8) 2 ∷ dispatched 1 Idle ∷ taken 0 2 6 ∷ ended 0 1 1 0x01 ∷ []

-- of many engines the last five: four of them use all read buffers with a Move each, and the fifth has to wait
abbrev pub last_of_many_engines : List Step
last_of_many_engines =
    one_queue 0 0 (of_these 1 124) ++ comes_in 0 (move 8) 0 ∷ taken 6 0 0 ∷ comes_in 0 (move 8) 1 ∷ taken 5 1 0 ∷
    comes_in 0 (move 8) 2 ∷ taken 4 2 0 ∷ comes_in 0 (move 8) 3 ∷ taken 3 3 0 ∷ comes_in 0 (move 8) 4 ∷
    dispatched 2 Idle ∷
    dispatched 7 Idle ∷ ended 6 0 0 0x01 ∷ taken 2 4 0 ∷ []

-- an abort of another PASID leaves the batch of the last engine
abbrev pub batch_of_the_last_engine : List Step
batch_of_the_last_engine =
    one_queue 0 0 (of_these 1 64) ++ comes_in 0 (batch 2) 0 ∷ taken 6 0 0 ∷ issued (AbortPasid 9) (Ended 0) ∷
    member 6 no_op 1 1 ∷ begun 6 1 1 ∷ ended 6 1 1 0x01 ∷ []

-- of many groups the last one, with one queue of three and one engine of two, which has one slot
abbrev pub last_of_many_groups : List Step
last_of_many_groups =
    one_queue 2 7 (of_these 4 2) ++ comes_in 2 (move 8) 0 ∷ taken 1 0 2 ∷ comes_in 2 (move 8) 1 ∷ dispatched 1 Idle ∷ []

-- the last of many queues is reset with an entry
abbrev pub reset_of_the_last_queue : List Step
reset_of_the_last_queue =
    last_of_many_queues ++ comes_in 6 no_op 0 ∷ issued (ResetWq (masked 64)) (Ended 1) ∷ []

-- ---- what they lead to

-- a device before its first step, with so many queues, groups, lists and engines
abbrev pub first_state : Caps → ℕ → ℕ → ℕ → ℕ → State
first_state caps queues groups lists engines = record {
  work = record {
    setup = record {
      caps = caps;
      device = Off;
      configs = replicate queues zero_queue;
      phases = replicate queues Off;
      groups = replicate groups zero_group;
      next_name = 0;
      noted = None;
    };
    content = replicate lists [];
    notes = replicate engines None;
    fates = [];
  };
  active = None;
}

-- what is seen of the state of a device after these steps
abbrev pub seen_there : {X : Type 0} → (State → X) → Caps → List Step → Option X
seen_there look caps steps = option_map look (replay caps steps)

-- the phases of the queues, by number
abbrev pub phases_there : Caps → List Step → Option (List Phase)
phases_there = seen_there (λ s. s.work.setup.phases)

-- the configurations of the queues, by number
abbrev pub configs_there : Caps → List Step → Option (List QueueConfig)
configs_there = seen_there (λ s. s.work.setup.configs)

-- the read buffers in use in each group
abbrev pub used_there : Caps → List Step → Option (List ℕ)
used_there = seen_there (λ s. all_used s.work)
