-- Why an entry that an engine ends does not complete with success.
use Rattle.std.specs.Prelude.{ℕ, cond, ◌==◌, [], ◌∷◌, count_by, find, Option, Some, None, is_none, option_map}
use Rattle.std.specs.Prelude.{option_and_then}
use Rattle.dsa_base.specs.Rows.{first_row}
use Rattle.dsa_desc.specs.declared.Outcome.{Outcome}
use Rattle.dsa_store.specs.{declared.entry.Entry.{Entry}, Content.{HeldEntry, entry_of}}
use Rattle.dsa_book.specs.declared.fate.{Fate.{Fate, TheVariants.{Completed}}, FateRow.{FateRow}}
use Rattle.dsa_book.specs.declared.answer.Ticket.{Ticket}
use Rattle.dsa_book.specs.{State.{Work, limits_at}, Work.{last_status}}
use Rattle.dsa_engines.specs.{Batch.{is_failed_in}, Finish.{finish_reason}}
use Rattle.dsa_explain.specs.declared.done.DoneReason.{DoneReason, TheVariants.{NotSupported, FenceOutside}}
use Rattle.dsa_explain.specs.declared.done.DoneReason.TheVariants.{SizeOutside, CountOutside, MembersFailed}
use Rattle.dsa_explain.specs.declared.done.DoneReason.TheVariants.{FailureForgotten, PageFault}

-- ---- members that failed

-- the first member of the batch of this name that was not successful
abbrev pub first_failure : Work → ℕ → Option FateRow
first_failure w batch = find (is_failed_in batch) w.fates

abbrev pub status_of_fate : Fate → ℕ
status_of_fate (Completed status) = status
status_of_fate fate = 0

-- of so many, with the name and the status of the first; where there is none, its fate was forgotten
abbrev pub failure_of : ℕ → Option FateRow → DoneReason
failure_of failed None = FailureForgotten
failure_of failed (Some row) = MembersFailed row.name (status_of_fate row.fate) failed

-- the first of them, and how many there are
abbrev pub members_failed : Work → ℕ → DoneReason
members_failed w batch = failure_of (count_by (is_failed_in batch) w.fates) (first_failure w batch)

-- ---- the reason

-- a reason for each status but success, with the numbers of the entry and of its queue
abbrev pub status_reason : Work → Entry → ℕ → Option DoneReason
status_reason w entry status = first_row (
    (status == 0x03, PageFault) ∷
    (status == 0x05, members_failed w entry.name) ∷
    (status == 0x10, NotSupported entry.desc.op) ∷
    (status == 0x11, FenceOutside) ∷
    (status == 0x13, SizeOutside entry.desc.size (limits_at w.setup entry.queue).max_xfer_shift entry.queue) ∷
    (status == 0x14, CountOutside entry.desc.size (limits_at w.setup entry.queue).max_batch_shift entry.queue) ∷ [])

-- the entry of the ticket, where the engine ends it
abbrev pub ending_entry : Work → ℕ → Ticket → Option HeldEntry
ending_entry w e ticket = cond (is_none (finish_reason w e ticket))
    (option_map (λ entry. (ticket.cell, entry)) (entry_of w.content ticket.cell)) None

-- why the entry of the ticket does not complete with success, where the engine ends it
abbrev pub done_reason : Work → ℕ → Ticket → Outcome → Option DoneReason
done_reason w e ticket outcome = option_and_then
    (λ (pair : HeldEntry). status_reason w pair.1 (last_status w e pair outcome)) (ending_entry w e ticket)
