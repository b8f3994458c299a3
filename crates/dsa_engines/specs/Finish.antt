-- Why an engine does not end an entry.
use Rattle.std.specs.Prelude.{ℕ, Bool, not, cond, ◌&&◌, ◌==◌, nat_lt, List, [], ◌∷◌, ◌++◌, length, map, find}
use Rattle.std.specs.Prelude.{Option, Some, None}
use Rattle.std.specs.Option.{option_map, option_map_or}
use Rattle.dsa_base.specs.Rows.{first_row, passes}
use Rattle.dsa_regs.specs.{declared.layout.ListUse.{ListUse}, Caps.{engine_of_list, list_use}}
use Rattle.dsa_store.specs.{declared.entry.Entry.{Entry}, Content.{HeldEntry, all_held, entry_of, list_of_cell}}
use Rattle.dsa_book.specs.declared.{answer.Ticket.{Ticket}, note.BatchNote.{BatchNote}}
use Rattle.dsa_book.specs.declared.answer.FinishAnswer.{FinishAnswer, TheVariants.{Done, NotReady, Gone}}
use Rattle.dsa_book.specs.State.{Work, is_batch_of, is_drain_of}
use Rattle.dsa_book.specs.Work.{members, note_at, is_all_fetched, waits_for, waits}
use Rattle.dsa_engines.specs.declared.reasons.FinishReason.{FinishReason}
use Rattle.dsa_engines.specs.declared.reasons.FinishReason.TheVariants.{NoEngine, NoEntry, OtherName, Elsewhere}
use Rattle.dsa_engines.specs.declared.reasons.FinishReason.TheVariants.{NotStarted}
use Rattle.dsa_engines.specs.declared.reasons.FinishReason.TheVariants.{MembersLeft, StillToFetch, DrainWaits}
use Rattle.dsa_engines.specs.Batch.{name_of_entry}

-- ---- an entry that is not the engine's to end

-- the list is one of the engine's
abbrev pub is_list_of : ℕ → ListUse → Bool
is_list_of e list = passes (λ k. k == e) (engine_of_list list)

-- what the cell of the ticket holds is another entry, or stands in a list that is not the engine's,
-- or is a member of the engine's batch that has not started
abbrev pub gone_table : ℕ → ℕ → Entry → ListUse → List (Bool × FinishReason)
gone_table e name entry list =
    (not (entry.name == name), OtherName entry.name) ∷
    (not (is_list_of e list), Elsewhere list) ∷
    (not entry.running, NotStarted) ∷ []

-- ---- an entry that has to wait

-- the first held entry that the Drain waits for, by the lists in their order
abbrev pub first_waited : Work → Entry → Option HeldEntry
first_waited w drain = find (λ pair. waits_for drain pair.1) (all_held w.content)

-- how many members of its batch the engine has fetched, and how many there are
abbrev pub fetched_count : Work → ℕ → ℕ
fetched_count w e = option_map_or (λ (note : BatchNote). note.fetched) (note_at w e) 0

abbrev pub member_total : Work → ℕ → ℕ
member_total w e = option_map_or (λ (note : BatchNote). note.count) (note_at w e) 0

-- what a batch waits for: its members that are left, and those that are still to be fetched
abbrev pub batch_table : Work → ℕ → List (Bool × FinishReason)
batch_table w e =
    (nat_lt 0 (length (members w e)), MembersLeft (length (members w e))) ∷
    (passes (λ note. not (is_all_fetched note)) (note_at w e), StillToFetch (fetched_count w e) (member_total w e)) ∷ []

-- these rows where the test holds
abbrev pub rows_where : Bool → List (Bool × FinishReason) → List (Bool × FinishReason)
rows_where test rows = map (λ row. (test && row.0, row.1)) rows

-- what a Drain waits for: what was submitted before it
abbrev pub drain_table : Work → Entry → List (Bool × FinishReason)
drain_table w entry = (is_drain_of w.setup entry && waits w entry, DrainWaits (name_of_entry (first_waited w entry)))
    ∷ []

-- what the entry waits for
abbrev pub wait_table : Work → ℕ → Entry → List (Bool × FinishReason)
wait_table w e entry = rows_where (is_batch_of w.setup entry) (batch_table w e) ++ drain_table w entry

-- ---- both

-- of what the cell holds, and in which list
abbrev pub entry_reason : Work → ℕ → ℕ → Option Entry → Option ListUse → Option FinishReason
entry_reason w e name (Some entry) (Some list) = first_row (gone_table e name entry list ++ wait_table w e entry)
entry_reason w e name _ _ = Some NoEntry

-- why the engine does not end the entry of the ticket
abbrev pub finish_reason : Work → ℕ → Ticket → Option FinishReason
finish_reason w e ticket = cond (nat_lt e w.setup.caps.engines)
    (entry_reason w e ticket.name (entry_of w.content ticket.cell)
    (option_map (list_use w.setup.caps) (list_of_cell w.content ticket.cell)))
    (Some NoEngine)

-- the answer that the reason is one for
abbrev pub finish_answer : FinishReason → FinishAnswer
finish_answer (MembersLeft left) = NotReady
finish_answer (StillToFetch fetched count) = NotReady
finish_answer (DrainWaits first) = NotReady
finish_answer reason = Gone

-- an answer by which nothing ends
abbrev pub unended : FinishAnswer → Option FinishAnswer
unended (Done status) = None
unended answer = Some answer
