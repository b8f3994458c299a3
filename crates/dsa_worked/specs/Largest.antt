-- Worked histories on a device with as many queues, engines and places as this model allows.
use Rattle.std.specs.Prelude.{ℕ, List, [], ◌∷◌, ◌++◌, Option, option_map}
use Rattle.dsa_regs.specs.Worked.{largest, shared_queue}
use Rattle.dsa_regs.specs.declared.{Caps.{Caps}, QueueConfig.{QueueConfig}, GroupConfig.{GroupConfig}}
use Rattle.dsa_regs.specs.declared.Command.TheVariants.{EnableDevice, EnableWq, DisableWq}
use Rattle.dsa_regs.specs.declared.Fault.TheVariants.{BadQueue}
use Rattle.dsa_book.specs.declared.answer.{SubmitAnswer.TheVariants.{Accepted}, WriteAnswer.TheVariants.{Written}}
use Rattle.dsa_book.specs.declared.answer.{FinishAnswer.{FinishAnswer}, IssueAnswer.TheVariants.{Active}}
use Rattle.dsa_book.specs.declared.event.{Step.{Step}, Portal.TheVariants.{Limited}, Kind.TheVariants.{Enqcmd}}
use Rattle.dsa_book.specs.{Machine.{replay}, declared.fate.FateRow.{FateRow}}
use Rattle.dsa_worked.specs.Setup.{batch, ticket, written, step_of_a_take, finished, issued, obeyed, step_of_a_refusal}
use Rattle.dsa_worked.specs.Setup.{step_of_a_queue_write, step_of_a_group_write}

-- 64 queues, 64 engines and 4096 places, in one group
abbrev pub one_large_group : Caps
one_large_group = record largest { groups = 1 }

-- the last queue has all places, and the limits of the device (profile)
abbrev last_queue : QueueConfig
last_queue =
    record shared_queue { size = 4096; threshold = 4096; priority = 15; max_batch_shift = 10; max_xfer_shift = 31 }

-- the last queue and the last engine, which are bit 63 of their sets, with the fewest buffers that a group may have
abbrev last_group : GroupConfig
last_group = record { queues = 9223372036854775808; engines = 9223372036854775808; reserved = 0; allowed = 4 }

-- the last queue is enabled, and one beyond it is not there
abbrev pub last_of_all : List Step
last_of_all =
    step_of_a_queue_write 63 last_queue Written ∷ step_of_a_group_write 0 last_group Written ∷ obeyed EnableDevice ∷
    obeyed (EnableWq 63) ∷ step_of_a_refusal BadQueue (DisableWq (record { group = 4; mask = 1 })) ∷ []

-- a batch of so many comes to the last queue and is ended, while the queue is being disabled
abbrev pub batch_of_the_last_queue : ℕ → FinishAnswer → List Step
batch_of_the_last_queue count answer =
    last_of_all
    ++ written 63 Limited (Enqcmd 5) (batch count) (Accepted (ticket 0 0)) ∷ step_of_a_take 63 0 0 ∷
    issued (DisableWq (record { group = 3; mask = 32768 })) Active ∷ finished 63 (ticket 0 0) answer ∷ []

-- the fate rows after these steps of that device
abbrev pub fates_there : List Step → Option (List FateRow)
fates_there steps = option_map (λ s. s.work.fates) (replay one_large_group steps)
