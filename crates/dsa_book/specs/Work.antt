-- The steps of an engine: dispatch, fetch, start, finish.
use Rattle.std.specs.Prelude.{ℕ, ◌+◌, Bool, true, false, not, cond, ◌&&◌, ◌||◌, ◌==◌, nat_lt, nat_le, List, [], ◌∷◌}
use Rattle.std.specs.Prelude.{◌++◌, length, map, filter, find, position, sum_by, get_or, slice_get, slice_set, Option}
use Rattle.std.specs.{Prelude.{Some, None, is_none, option_map}, List.{list_any}}
use Rattle.dsa_desc.specs.Descriptor.{with_pasid, is_fenced, is_successful}
use Rattle.dsa_desc.specs.declared.{Descriptor.{Descriptor}, Outcome.{Outcome}}
use Rattle.dsa_base.specs.{Rows.{first_row_or, passes}, Numbers.{has, numbers_below}}
use Rattle.dsa_regs.specs.declared.{GroupConfig.{GroupConfig}, layout.ListUse.TheVariants.{Progress, Members}}
use Rattle.dsa_regs.specs.{Caps.{list_number}, Config.{group_at}, Buffers.{fits}}
use Rattle.dsa_store.specs.Content.{HeldEntry, chain, is_cell, after_push, without_front, after_give_back, after_unlink}
use Rattle.dsa_store.specs.declared.entry.{Cell.{Cell}, Entry.{Entry}}
use Rattle.dsa_book.specs.State.{Setup, Work, has_queue, is_member, need_of, held_by, status_of_entry, is_batch_of}
use Rattle.dsa_book.specs.State.{is_drain_of}
use Rattle.dsa_book.specs.declared.answer.FetchAnswer.{FetchAnswer, TheVariants.{Fetched, NoBatch, AllFetched}}
use Rattle.dsa_book.specs.declared.answer.FinishAnswer.{FinishAnswer, TheVariants.{Done, NotReady, Gone}}
use Rattle.dsa_book.specs.declared.answer.StartAnswer.TheVariants.{Started, FenceWait, NoBuffers, Abandoned, Nothing}
use Rattle.dsa_book.specs.declared.answer.{DispatchAnswer.{DispatchAnswer, TheVariants.{Taken, Idle}}, Ticket.{Ticket}}
use Rattle.dsa_book.specs.declared.fate.{Fate.{Fate, TheVariants.{Completed, Abandoned}}, FateRow.{FateRow}}
use Rattle.dsa_book.specs.declared.{answer.StartAnswer.{StartAnswer}, note.BatchNote.{BatchNote}}
use Rattle.dsa_book.specs.Choice.{Choice, nothing, in_cell, from_queue}
use Rattle.dsa_book.specs.State.{ticket_of_entry, is_ticket, any_in, holds_any}

-- ---- what an engine has. An engine that the device does not have has nothing

-- the list of the submitted entries in progress on the engine (profile)
abbrev pub progress_list : Setup → ℕ → ℕ
progress_list setup e = list_number setup.caps (Progress e)

-- the list of the members of its batch (profile)
abbrev pub member_list : Setup → ℕ → ℕ
member_list setup e = list_number setup.caps (Members e)

-- the submitted entries in progress on an engine
abbrev pub in_progress : Work → ℕ → List HeldEntry
in_progress w e = cond (nat_lt e w.setup.caps.engines) (chain w.content (progress_list w.setup e)) []

-- the members of the engine's batch that have not ended
abbrev pub members : Work → ℕ → List HeldEntry
members w e = cond (nat_lt e w.setup.caps.engines) (chain w.content (member_list w.setup e)) []

-- the entries that run on an engine
abbrev pub running_on : Work → ℕ → List HeldEntry
running_on w e = filter (λ pair. pair.1.running) (in_progress w e ++ members w e)

-- the note of the batch that the engine works on
abbrev pub note_at : Work → ℕ → Option BatchNote
note_at w e = get_or w.notes e None

-- with this note of the engine
abbrev pub with_note : List (Option BatchNote) → ℕ → Option BatchNote → List (Option BatchNote)
with_note notes e note = slice_set notes e note

-- the first of the groups that has the engine; while the device is enabled there is no other (profile)
abbrev pub group_in : List GroupConfig → ℕ → Option ℕ
group_in groups e = position (λ g. has g.engines e) groups

-- the group of the engine
abbrev pub group_of_engine : Work → ℕ → Option ℕ
group_of_engine w e = group_in w.setup.groups e

-- ---- read buffers

-- how many read buffers the entries of an engine hold (profile)
abbrev pub used_on : Work → ℕ → ℕ
used_on w e = sum_by (λ pair. held_by w.setup pair.1) (in_progress w e ++ members w e)

-- how many those of the group's engines have taken (profile)
abbrev pub used : Work → ℕ → ℕ
used w g = sum_by (used_on w) (filter (has (group_at w.setup.groups g).engines) (numbers_below w.setup.caps.engines))

-- how many each group has taken (profile)
abbrev pub all_used : Work → List ℕ
all_used w = map (used w) (numbers_below w.setup.caps.groups)

-- n more buffers fit the group of the engine (profile)
abbrev pub has_room : Work → ℕ → ℕ → Bool
has_room w e n = passes (λ g. fits w.setup.caps.read_buffers w.setup.groups (all_used w) g n) (group_of_engine w e)

-- ---- dispatch

-- the queue is of the engine's group (Intel DSA: any engine of a group takes from any work queue of the group)
abbrev pub serves : Work → ℕ → ℕ → Bool
serves w e q = passes (λ g. has (group_at w.setup.groups g).queues q) (group_of_engine w e)

-- a well-formed Drain is in progress on the engine
abbrev pub is_draining : Work → ℕ → Bool
is_draining w e = any_in (is_drain_of w.setup) (in_progress w e)

-- the engine has a slot left and the buffers that the front needs, and works on one batch and on one Drain at a time
-- (profile)
abbrev pub may_take : Work → ℕ → HeldEntry → Bool
may_take w e front =
    nat_lt (length (in_progress w e)) w.setup.caps.slots
    && has_room w e (need_of w.setup front.1)
    && (is_none (note_at w e) || not (is_batch_of w.setup front.1))
    && not (is_drain_of w.setup front.1 && is_draining w e)

-- a queue is served front first (profile)
abbrev pub front_of : Work → ℕ → Option HeldEntry
front_of w q = slice_get (chain w.content q) 0

-- the queue is one of the engine's, and the engine may take its front (profile)
abbrev pub qualifies : Work → ℕ → ℕ → Bool
qualifies w e q = (nat_lt e w.setup.caps.engines && has_queue w.setup q)
    && (serves w e q && passes (may_take w e) (front_of w q))

-- the note of a batch that was taken: nothing is fetched of it (profile)
abbrev pub opened_note : Entry → BatchNote
opened_note batch = record { batch = batch.name; count = batch.desc.size; fetched = 0; failed = false; closed = false }

-- the same entry, running
abbrev pub as_running : Entry → Entry
as_running entry = record entry { running = true }

-- the same cell, whose entry runs
abbrev pub with_running_entry : HeldEntry → HeldEntry
with_running_entry pair = (pair.0, as_running pair.1)

-- the front of the queue goes to the end of those in progress, and runs; a well-formed Batch opens a note (profile)
abbrev pub after_take : Work → ℕ → ℕ → HeldEntry → Work
after_take w e q front = record w {
  content = after_push (without_front w.content q) (progress_list w.setup e) front.0 (as_running front.1);
  notes = cond (is_batch_of w.setup front.1) (with_note w.notes e (Some (opened_note front.1))) w.notes;
}

-- any qualifying queue may be chosen, and nothing where none qualifies (Intel DSA: any engine of a
-- group takes from any work queue of the group; which of them qualify is the profile's)
abbrev pub may_leave : Work → ℕ → Choice → Bool
may_leave w e nothing = not (list_any (qualifies w e) (numbers_below w.setup.caps.queues))
may_leave w e (from_queue q) = qualifies w e q
may_leave w e (in_cell cell) = false

-- the front is taken, where there is one (profile)
abbrev pub dispatch_of : Work → ℕ → ℕ → Option HeldEntry → DispatchAnswer × Work
dispatch_of w e q None = (Idle, w)
dispatch_of w e q (Some front) = (Taken (ticket_of_entry front) q, after_take w e q front)

-- the answer to a dispatch and what it leaves: the chosen queue's front is taken, and Idle comes without one (profile)
abbrev pub dispatch : Work → ℕ → Choice → DispatchAnswer × Work
dispatch w e (from_queue q) = dispatch_of w e q (front_of w q)
dispatch w e _ = (Idle, w)

-- ---- fetch

-- as many were fetched as the batch has, or its rest was abandoned (profile)
abbrev pub is_all_fetched : BatchNote → Bool
is_all_fetched note = note.closed || nat_le note.count note.fetched

-- the batch that the note is of
abbrev pub batch_on : Work → ℕ → BatchNote → Option HeldEntry
batch_on w e note = find (λ pair. pair.1.name == note.batch) (in_progress w e)

-- the member stands last among the members, with the next name, the given cell, and the batch's
-- PASID and queue (profile)
abbrev pub after_fetch : Work → ℕ → Descriptor → Cell → BatchNote → Entry → FetchAnswer × Work
after_fetch w e desc cell note batch = (
  Fetched (record { cell = cell; name = w.setup.next_name }),
  record w {
    setup = record w.setup { next_name = w.setup.next_name + 1 };
    content = after_push w.content (member_list w.setup e) cell (
        record {
          name = w.setup.next_name;
          parent = Some note.batch;
          desc = with_pasid desc batch.desc.pasid;
          queue = batch.queue;
          running = false;
        }
        );
    notes = with_note w.notes e (Some (record note { fetched = note.fetched + 1 }));
  },
)

-- nothing is fetched past the count of the batch (profile)
abbrev pub fetch_of : Work → ℕ → Descriptor → Cell → BatchNote → Option HeldEntry → FetchAnswer × Work
fetch_of w e desc cell note None = (NoBatch, w)
fetch_of w e desc cell note (Some batch) =
    first_row_or ((is_all_fetched note, (AllFetched, w)) ∷ []) (after_fetch w e desc cell note batch.1)

-- nothing is fetched without a batch (profile)
abbrev pub fetch_for : Work → ℕ → Descriptor → Cell → Option BatchNote → FetchAnswer × Work
fetch_for w e desc cell None = (NoBatch, w)
fetch_for w e desc cell (Some note) = fetch_of w e desc cell note (batch_on w e note)

-- the answer to a fetch and what it leaves, where a fetched member is given this cell (profile)
abbrev pub fetch : Work → ℕ → Descriptor → Cell → FetchAnswer × Work
fetch w e desc cell = fetch_for w e desc cell (note_at w e)

-- ---- start

-- the first member that does not run
abbrev pub first_waiting : Work → ℕ → Option HeldEntry
first_waiting w e = find (λ pair. not pair.1.running) (members w e)

-- whether all members before this one have ended
abbrev pub is_front : Work → ℕ → HeldEntry → Bool
is_front w e pair = passes (is_cell pair.0) (slice_get (members w e) 0)

-- whether a member of the engine's batch was not successful
abbrev pub has_failed_member : Work → ℕ → Bool
has_failed_member w e = passes (λ note. note.failed) (note_at w e)

-- the row of an entry that ends so
abbrev pub fate_row : Fate → HeldEntry → FateRow
fate_row fate pair = record { name = pair.1.name; parent = pair.1.parent; fate = fate }

-- all members end, and the batch is closed (Intel DSA: fence, where a descriptor before it failed)
abbrev pub after_abandon : Work → ℕ → Work
after_abandon w e = record w {
  content = after_give_back w.content (member_list w.setup e);
  notes = with_note w.notes e (option_map (λ (note : BatchNote). record note { closed = true }) (note_at w e));
  fates = w.fates ++ map (fate_row Abandoned) (members w e);
}

-- the first that does not run runs
abbrev pub with_first_run : List HeldEntry → List HeldEntry
with_first_run [] = []
with_first_run (pair ∷ rest) = cond pair.1.running (pair ∷ with_first_run rest) (with_running_entry pair ∷ rest)

-- the first member that did not run runs (profile)
abbrev pub after_start : Work → ℕ → Work
after_start w e = record w { content = slice_set w.content (member_list w.setup e) (with_first_run (members w e)) }

-- what keeps a member from starting: a fence waits for all members before it, a failure before it
-- abandons the rest (Intel DSA: fence), or there is want of buffers (profile)
abbrev pub start_table : Work → ℕ → HeldEntry → List (Bool × (StartAnswer × Work))
start_table w e pair =
    (is_fenced pair.1.desc && not (is_front w e pair), (FenceWait, w)) ∷
    (is_fenced pair.1.desc && has_failed_member w e, (Abandoned (length (members w e)), after_abandon w e)) ∷
    (not (has_room w e (need_of w.setup pair.1)), (NoBuffers, w)) ∷ []

-- Nothing without a member that waits, else what keeps it from starting, else it starts (profile)
abbrev pub start_of : Work → ℕ → Option HeldEntry → StartAnswer × Work
start_of w e None = (Nothing, w)
start_of w e (Some pair) = first_row_or (start_table w e pair) (Started (ticket_of_entry pair), after_start w e)

-- the answer to a start and what it leaves (profile)
abbrev pub start : Work → ℕ → StartAnswer × Work
start w e = start_of w e (first_waiting w e)

-- ---- finish

-- members are left, or may still be fetched (profile)
abbrev pub is_unfinished : Work → ℕ → Bool
is_unfinished w e = nat_lt 0 (length (members w e)) || passes (λ note. not (is_all_fetched note)) (note_at w e)

-- a Drain waits for this one: it was submitted before the Drain, to the same queue and under the same PASID (profile)
abbrev pub waits_for : Entry → Entry → Bool
waits_for drain entry =
    not (is_member entry)
    && entry.queue == drain.queue
    && entry.desc.pasid == drain.desc.pasid
    && nat_lt entry.name drain.name

-- one that the Drain waits for is held (profile)
abbrev pub waits : Work → Entry → Bool
waits w drain = holds_any (waits_for drain) w.content

-- what is not ready to end: a well-formed Batch that is unfinished, and a well-formed Drain that waits (profile)
abbrev pub must_wait : Work → ℕ → Entry → Bool
must_wait w e entry =
    (is_batch_of w.setup entry && is_unfinished w e) || (is_drain_of w.setup entry && waits w entry)

-- a batch with a member that was not successful ends with 0x05 (profile; the number is equal to
-- that of the Linux header)
abbrev pub last_status : Work → ℕ → HeldEntry → Outcome → ℕ
last_status w e pair outcome =
    cond (is_batch_of w.setup pair.1 && has_failed_member w e) 0x05 (status_of_entry w.setup pair.1 outcome)

-- the note of a batch that ends goes, and a member that was not successful sets the failed mark (profile)
abbrev pub note_after : Work → ℕ → HeldEntry → Outcome → Option BatchNote
note_after w e pair outcome =
    cond (is_batch_of w.setup pair.1) None
    (cond (is_member pair.1 && not (is_successful (status_of_entry w.setup pair.1 outcome)))
    (option_map (λ (note : BatchNote). record note { failed = true }) (note_at w e))
    (note_at w e))

-- the entry leaves, and its fate is written down (profile)
abbrev pub after_end : Work → ℕ → HeldEntry → Outcome → Work
after_end w e pair outcome = record w {
  content = after_unlink w.content pair.0;
  notes = with_note w.notes e (note_after w e pair outcome);
  fates = w.fates ++ fate_row (Completed (last_status w e pair outcome)) pair ∷ [];
}

-- Gone without such an entry, NotReady for one that must wait, else Done (profile)
abbrev pub finish_of : Work → ℕ → Outcome → Option HeldEntry → FinishAnswer × Work
finish_of w e outcome None = (Gone, w)
finish_of w e outcome (Some pair) =
    first_row_or ((must_wait w e pair.1, (NotReady, w)) ∷ [])
    (Done (last_status w e pair outcome), after_end w e pair outcome)

-- the answer to an end and what it leaves: it is of the running entry of the engine that has the
-- ticket's cell and name (profile)
abbrev pub finish : Work → ℕ → Ticket → Outcome → FinishAnswer × Work
finish w e ticket outcome = finish_of w e outcome (find (is_ticket ticket) (running_on w e))
