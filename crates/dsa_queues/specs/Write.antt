-- Why a configuration is not written, and no error cleared.
use Rattle.std.specs.Prelude.{ℕ, List, [], ◌∷◌, Option, Some, None}
use Rattle.dsa_base.specs.Rows.{first_row}
use Rattle.dsa_regs.specs.declared.{QueueConfig.{QueueConfig}, Fault.{Fault}}
use Rattle.dsa_regs.specs.declared.Fault.TheVariants.{Locked, BadIndex}
use Rattle.dsa_regs.specs.Config.{queue_at}
use Rattle.dsa_book.specs.{State.{Setup, phase_at}, Commands.{write_queue_table, write_group_table}}
use Rattle.dsa_book.specs.declared.answer.WriteAnswer.{WriteAnswer, TheVariants.{Written, Refused}}
use Rattle.dsa_book.specs.declared.answer.NotedError.{NotedError}
use Rattle.dsa_queues.specs.declared.reasons.WriteReason.TheVariants.{BadIndex, LockedQueue, LockedSize, LockedGroup}
use Rattle.dsa_queues.specs.declared.reasons.{WriteReason.{WriteReason}, ClearReason.{ClearReason}}
use Rattle.dsa_queues.specs.declared.reasons.ClearReason.TheVariants.{NothingNoted}
use Rattle.dsa_queues.specs.Reasons.{with_reasons}

-- a reason for each row of the table of a queue's configuration, in its order
abbrev pub write_queue_reasons : Setup → ℕ → List WriteReason
write_queue_reasons setup q =
    BadIndex setup.caps.queues ∷
    LockedQueue (phase_at setup q) ∷
    LockedSize setup.device (queue_at setup.configs q).size ∷ []

-- the reason of the first row that stands
abbrev pub write_queue_reason : Setup → ℕ → QueueConfig → Option WriteReason
write_queue_reason setup q config =
    first_row (with_reasons (write_queue_table setup q config) (write_queue_reasons setup q))

-- a reason for each row of the table of a group's configuration, in its order
abbrev pub write_group_reasons : Setup → List WriteReason
write_group_reasons setup = BadIndex setup.caps.groups ∷ LockedGroup setup.device ∷ []

-- the reason of the first row that stands
abbrev pub write_group_reason : Setup → ℕ → Option WriteReason
write_group_reason setup g = first_row (with_reasons (write_group_table setup g) (write_group_reasons setup))

-- the fault that is answered for the reason
abbrev pub fault_of_write : WriteReason → Fault
fault_of_write (BadIndex count) = BadIndex
fault_of_write _ = Locked

-- what a write leads to by its reason: it is refused for the fault of one, and leaves this without
abbrev pub write_by : Setup → Setup → Option WriteReason → WriteAnswer × Setup
write_by setup written None = (Written, written)
write_by setup written (Some reason) = (Refused (fault_of_write reason), setup)

-- nothing is cleared where no error is noted
abbrev pub clear_reason : Option NotedError → Option ClearReason
clear_reason None = Some NothingNoted
clear_reason (Some noted) = None
