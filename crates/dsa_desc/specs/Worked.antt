-- Descriptors that the worked rows speak of, in queues with batch shift 3 and transfer shift 20.
use Rattle.std.specs.Prelude.{ℕ, zero, suc, Bool, List, [], ◌∷◌, ◌++◌, replicate}
use Rattle.dsa_desc.specs.declared.{Descriptor.{Descriptor}, QueueLimits.{QueueLimits}, Outcome.{Outcome}}
use Rattle.dsa_desc.specs.Descriptor.{check, need, status}

-- ---- 64 bytes

-- a Memory Move of 4096 bytes, the first four bytes 0xff
abbrev pub move_bytes : List ℕ
move_bytes =
    replicate 4 0xff ++ 0x00 ∷ 0x00 ∷ 0x00 ∷ 0x03 ∷ [] ++ replicate 24 0x00
    ++ 0x00 ∷ 0x10 ∷ 0x00 ∷ 0x00 ∷ [] ++ replicate 28 0x00

-- n numbers from i up
abbrev pub numbers_from : ℕ → ℕ → List ℕ
numbers_from i zero = []
numbers_from i (suc n) = i ∷ numbers_from (suc i) n

-- bytes each of which is its own place
abbrev pub counting_bytes : List ℕ
counting_bytes = numbers_from 0 64

-- ---- fields

-- a descriptor with this operation code, flags and size
abbrev pub descriptor : ℕ → ℕ → ℕ → Descriptor
descriptor op flags size = record { pasid = 5; flags = flags; op = op; size = size }

-- a No-op with these flags
abbrev pub no_op_descriptor : ℕ → Descriptor
no_op_descriptor flags = descriptor 0x00 flags 0

-- a Batch of so many descriptors
abbrev pub batch_descriptor : ℕ → Descriptor
batch_descriptor count = descriptor 0x01 0 count

-- a Drain
abbrev pub drain_descriptor : Descriptor
drain_descriptor = descriptor 0x02 0 0

-- a Memory Move of so many bytes
abbrev pub memory_move : ℕ → Descriptor
memory_move size = descriptor 0x03 0 size

-- a Fill of so many bytes
abbrev pub fill_descriptor : ℕ → Descriptor
fill_descriptor size = descriptor 0x04 0 size

-- a Compare of so many bytes
abbrev pub compare : ℕ → Descriptor
compare size = descriptor 0x05 0 size

-- ---- queues

-- the same shift for batches and for transfers
abbrev pub both_shifts : ℕ → QueueLimits
both_shifts shift = record { max_batch_shift = shift; max_xfer_shift = shift }

-- batches of at most 8 descriptors, transfers of at most 2 ^ 20 bytes
abbrev pub usual_limits : QueueLimits
usual_limits = record { max_batch_shift = 3; max_xfer_shift = 20 }

-- the check in such a queue
abbrev pub usual_check : Descriptor → Bool → ℕ
usual_check d member = check d usual_limits member

-- the read buffers in such a queue
abbrev pub usual_need : Descriptor → Bool → ℕ
usual_need d member = need d usual_limits member

-- the completion in such a queue
abbrev pub usual_status : Descriptor → Bool → Outcome → ℕ
usual_status d member outcome = status d usual_limits member outcome
