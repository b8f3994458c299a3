-- Why an engine fetches no member of its batch, and why it starts none.
use Rattle.dsa_engines.specs.declared.starting.StartBlock.TheVariants as block
use Rattle.dsa_book.specs.declared.answer.FetchAnswer.TheVariants as fetch
use Rattle.dsa_book.specs.declared.answer.StartAnswer.TheVariants as start
use Rattle.std.specs.Prelude.{◌≡◌, ℕ, ◌<◌, Bool, true, false, not, cond, ◌&&◌, ◌==◌, nat_lt, List, [], ◌∷◌, length, get_or, slice_get, find}
use Rattle.std.specs.Prelude.{Option, Some, None, is_none, unwrap_or, option_map, option_and_then}
use Rattle.std.specs.Option.{option_map_or}
use Rattle.dsa_base.specs.Rows.{first_row, passes, when}
use Rattle.dsa_desc.specs.Descriptor.{is_fenced, is_successful}
use Rattle.dsa_regs.specs.Buffers.{fits}
use Rattle.dsa_store.specs.{declared.entry.Entry.{Entry}, Content.{HeldEntry, Content, chain, is_cell}}
use Rattle.dsa_book.specs.declared.answer.FetchAnswer.{FetchAnswer}
use Rattle.dsa_book.specs.declared.{answer.StartAnswer.{StartAnswer}, note.BatchNote.{BatchNote}}
use Rattle.dsa_book.specs.declared.fate.{Fate.{Fate, TheVariants.{Completed}}, FateRow.{FateRow}}
use Rattle.dsa_book.specs.State.{Setup, Work, need_of}
use Rattle.dsa_book.specs.Work.{note_at, batch_on, is_all_fetched, members, first_waiting, start_table, group_of_engine}
use Rattle.dsa_book.specs.Work.{member_list}
use Rattle.dsa_engines.specs.declared.reasons.FetchReason.{FetchReason, TheVariants.{NoEngine, NoBatch, AllFetched}}
use Rattle.dsa_engines.specs.declared.reasons.StartReason.{StartReason}
use Rattle.dsa_engines.specs.declared.reasons.StartReason.TheVariants.{Nothing, Fence, Failed, NoBuffers, NoGroup}
use Rattle.dsa_queues.specs.Reasons.{with_reasons}
use Rattle.dsa_buffers.specs.Buffers.{want_of}
use Rattle.dsa_buffers.specs.Buffers.{Buffers}
use Rattle.dsa_engines.specs.Engines.{EnginesState, buffers_at}
use Rattle.dsa_engines.specs.declared.starting.StartBlock.{StartBlock}

-- ---- fetch

-- of the batch that the note is of: its numbers, where no member is to be fetched
abbrev pub fetch_reason_of : BatchNote → Option HeldEntry → Option FetchReason
fetch_reason_of note None = Some NoBatch
fetch_reason_of note (Some batch) = when (is_all_fetched note) (AllFetched note.count note.fetched note.closed)

-- of the engine's note
abbrev pub fetch_reason_for : Work → ℕ → Option BatchNote → Option FetchReason
fetch_reason_for w e None = Some NoBatch
fetch_reason_for w e (Some note) = fetch_reason_of note (batch_on w e note)

-- why the engine fetches no member
abbrev pub fetch_reason : Work → ℕ → Option FetchReason
fetch_reason w e = cond (nat_lt e w.setup.caps.engines) (fetch_reason_for w e (note_at w e)) (Some NoEngine)

-- the answer that the reason is one for
abbrev pub fetch_answer : FetchReason → FetchAnswer
fetch_answer (AllFetched count fetched closed) = fetch.AllFetched
fetch_answer reason = fetch.NoBatch

-- an answer by which no member is fetched
abbrev pub unfetched : FetchAnswer → Option FetchAnswer
unfetched (fetch.Fetched ticket) = None
unfetched answer = Some answer

-- ---- start

-- the name of an entry that is there
abbrev pub name_of_entry : Option HeldEntry → ℕ
name_of_entry pair = option_map_or (λ (pair : HeldEntry). pair.1.name) pair 0

-- the first of the engine's members that have not ended
abbrev pub first_member : Work → ℕ → Option HeldEntry
first_member w e = slice_get (members w e) 0

-- the row is of a member of that batch, which an engine ended with another status than success
abbrev pub is_failure : Fate → Bool
is_failure (Completed status) = not (is_successful status)
is_failure fate = false

abbrev pub is_failed_in : ℕ → FateRow → Bool
is_failed_in batch row = passes (λ parent. parent == batch) row.parent && is_failure row.fate

-- the first member of the engine's batch that was not successful, by its name
abbrev pub failed_member : Work → ℕ → Option ℕ
failed_member w e = option_and_then
    (λ (note : BatchNote). option_map (λ (row : FateRow). row.name) (find (is_failed_in note.batch) w.fates))
    (note_at w e)

-- the read buffers that the member lacks; those of a group, where the engine is of one
abbrev pub want_reason : Work → ℕ → Entry → StartReason
want_reason w e member = cond (is_none (group_of_engine w e)) NoGroup
    (NoBuffers (want_of (buffers_at w) (unwrap_or (group_of_engine w e) 0) (need_of w.setup member)))

-- a reason for each row of what keeps a member from starting: the member with the fence and the first
-- that it waits for, the same member with the one that failed and how many are abandoned, and the read buffers
abbrev pub start_reasons : Work → ℕ → HeldEntry → List StartReason
start_reasons w e pair =
    Fence pair.1.name (name_of_entry (first_member w e)) ∷
    Failed pair.1.name (failed_member w e) (length (members w e)) ∷
    want_reason w e pair.1 ∷ []

-- of the first member that waits: the first row that stands
abbrev pub start_reason_of : Work → ℕ → Option HeldEntry → Option StartReason
start_reason_of w e None = Some Nothing
start_reason_of w e (Some pair) = first_row (with_reasons (start_table w e pair) (start_reasons w e pair))

-- why the engine starts no member
abbrev pub start_reason : Work → ℕ → Option StartReason
start_reason w e = start_reason_of w e (first_waiting w e)

-- the answer that the reason is one for
abbrev pub start_answer : StartReason → StartAnswer
start_answer Nothing = start.Nothing
start_answer (Fence member waits_for) = start.FenceWait
start_answer (Failed member failed left) = start.Abandoned left
start_answer reason = start.NoBuffers

-- an answer by which no member starts
abbrev pub unstarted : StartAnswer → Option StartAnswer
unstarted (start.Started ticket) = None
unstarted answer = Some answer

-- ---- what the step of a start finds

-- what keeps it from starting where read buffers do not fit the group, or there is none
abbrev pub block_of_group : ℕ → Option ℕ → StartBlock
block_of_group need None = block.NoGroup
block_of_group need (Some g) = block.Buffers g need

-- the reason of what keeps a member from starting, with its numbers
abbrev pub told_as : Work → Buffers → ℕ → StartBlock → StartReason
told_as w b e block.Nothing = Nothing
told_as w b e (block.Fence member) = Fence member (name_of_entry (first_member w e))
told_as w b e (block.Failed member left) = Failed member (failed_member w e) left
told_as w b e (block.Buffers g need) = NoBuffers (want_of b g need)
told_as w b e block.NoGroup = NoGroup

-- the group that its numbers are of is there
abbrev pub MayTell : Buffers → StartBlock → Type 0
MayTell b (block.Buffers g need) = g < length b.groups
MayTell b _ = Unit {0}

-- the engine may start this member, whose buffers fit the group
pub record MayStart (setup : Setup) (engines_state : EnginesState) (content : Content) (e : ℕ) (pair : HeldEntry)
    (g : ℕ) : Type 0 where
  pub engine : e < setup.caps.engines
  pub waiting : find (λ pair. not pair.1.running) (chain content (member_list setup e)) ≡ Some pair
  pub fence : false
      ≡ (is_fenced pair.1.desc && not (passes (is_cell pair.0) (slice_get (chain content (member_list setup e)) 0)))
  pub failing : false
      ≡ (is_fenced pair.1.desc && passes (λ (note : BatchNote). note.failed) (get_or engines_state.notes e None))
  pub home : get_or engines_state.homes e None ≡ Some g
  pub group : g < length engines_state.buffers.groups
  pub room : fits engines_state.buffers.total engines_state.buffers.groups engines_state.buffers.used g
      (need_of setup pair.1) ≡ true
