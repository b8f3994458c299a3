-- Why an engine that asks for an entry gets none: of the engine, and of each queue of its group.
use Rattle.std.specs.Prelude.{ℕ, Bool, not, cond, ◌&&◌, ◌||◌, nat_lt, List, [], ◌∷◌, length, find}
use Rattle.std.specs.{Prelude.{Option, Some, None, is_none, is_some, unwrap_or}, List.{list_all}}
use Rattle.std.specs.Option.{option_map_or}
use Rattle.dsa_base.specs.{Rows.{first_row}, Numbers.{numbers_below}}
use Rattle.dsa_store.specs.{declared.entry.Entry.{Entry}, Content.{HeldEntry}}
use Rattle.dsa_book.specs.declared.note.BatchNote.{BatchNote}
use Rattle.dsa_book.specs.State.{Work, has_queue, need_of, is_batch_of, is_drain_of}
use Rattle.dsa_book.specs.Work.{group_of_engine, has_room, in_progress, note_at, serves, front_of, is_draining}
use Rattle.dsa_engines.specs.declared.reasons.EngineReason.{EngineReason, TheVariants.{NoEngine, NoGroup}}
use Rattle.dsa_engines.specs.declared.reasons.QueueReason.{QueueReason}
use Rattle.dsa_engines.specs.declared.taking.TakeBlock.{TakeBlock, TheVariants.{Buffers, Batch, Drain}}
use Rattle.dsa_engines.specs.declared.reasons.QueueReason.TheVariants.{Empty, NoSlot, NoBuffers, OtherBatch}
use Rattle.dsa_engines.specs.declared.reasons.QueueReason.TheVariants.{OtherDrain}
use Rattle.dsa_buffers.specs.Buffers.{want_of}
use Rattle.dsa_engines.specs.Engines.{buffers_at}

-- ---- the engine

-- what an engine wants before any queue is looked at, in this order
abbrev pub engine_table : Work → ℕ → List (Bool × EngineReason)
engine_table w e = (not (nat_lt e w.setup.caps.engines), NoEngine) ∷ (is_none (group_of_engine w e), NoGroup) ∷ []

-- the first that stands
abbrev pub engine_reason : Work → ℕ → Option EngineReason
engine_reason w e = first_row (engine_table w e)

-- ---- the queues of its group

-- the device has both, and the queue is of the engine's group
abbrev pub is_offered : Work → ℕ → ℕ → Bool
is_offered w e q = (nat_lt e w.setup.caps.engines && has_queue w.setup q) && serves w e q

-- the name of the batch that the engine works on
abbrev pub batch_name : Work → ℕ → ℕ
batch_name w e = option_map_or (λ (note : BatchNote). note.batch) (note_at w e) 0

-- the name of the Drain in progress on the engine
abbrev pub drain_name : Work → ℕ → ℕ
drain_name w e =
    option_map_or (λ (pair : HeldEntry). pair.1.name) (find (λ pair. is_drain_of w.setup pair.1) (in_progress w e)) 0

-- what keeps an engine with a slot left from taking this front, where the read buffers that it needs fit or do not
abbrev pub block_table : Work → ℕ → Bool → Entry → List (Bool × TakeBlock)
block_table w e fits front =
    (not fits, Buffers) ∷
    (not (is_none (note_at w e) || not (is_batch_of w.setup front)), Batch (batch_name w e)) ∷
    (is_drain_of w.setup front && is_draining w e, Drain (drain_name w e)) ∷ []

-- what keeps the engine from taking this front: what it has to meet and does not, in that order
abbrev pub take_table : Work → ℕ → HeldEntry → List (Bool × QueueReason)
take_table w e front =
    let in_use = length (in_progress w e) in
    let need = need_of w.setup front.1 in
    (not (nat_lt in_use w.setup.caps.slots), NoSlot in_use w.setup.caps.slots) ∷
    (not (has_room w e need), NoBuffers (want_of (buffers_at w) (unwrap_or (group_of_engine w e) 0) need)) ∷
    (not (is_none (note_at w e) || not (is_batch_of w.setup front.1)), OtherBatch (batch_name w e)) ∷
    (is_drain_of w.setup front.1 && is_draining w e, OtherDrain (drain_name w e)) ∷ []

-- an empty queue has no front, and else the first row that stands decides
abbrev pub front_reason : Work → ℕ → Option HeldEntry → Option QueueReason
front_reason w e None = Some Empty
front_reason w e (Some front) = first_row (take_table w e front)

-- why the engine takes nothing from the queue; no queue but those of its group has a reason
abbrev pub queue_reason : Work → ℕ → ℕ → Option QueueReason
queue_reason w e q = cond (is_offered w e q) (front_reason w e (front_of w q)) None

-- each queue that is offered to the engine has a reason
abbrev pub all_have_reasons : Work → ℕ → Bool
all_have_reasons w e =
    list_all (λ q. not (is_offered w e q) || is_some (queue_reason w e q)) (numbers_below w.setup.caps.queues)
