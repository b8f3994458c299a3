-- States of which the statements of the laws are true or broken: a batch 0 with its members, by their fates.
use Rattle.std.specs.Prelude.{ℕ, Bool, false, List, [], ◌∷◌, Some}
use Rattle.dsa_regs.specs.Worked.{caps}
use Rattle.dsa_store.specs.Content.{Content}
use Rattle.dsa_book.specs.declared.{fate.{Fate.TheVariants.{Completed, Abandoned, Aborted}, FateRow.{FateRow}}}
use Rattle.dsa_book.specs.{declared.note.BatchNote.{BatchNote}, State.{Work, opening_setup}}
use Rattle.dsa_worked.specs.Setup.{no_op, row, held_entry}

-- these fate rows and these lists, and nothing else
abbrev pub work_with : List FateRow → Content → Work
work_with fates content = record { setup = opening_setup caps; content = content; notes = []; fates = fates }

-- two members are done
abbrev pub two_done : List FateRow
two_done = row 1 (Some 0) (Completed 0x01) ∷ row 2 (Some 0) (Completed 0x01) ∷ []

-- one member is done, and two are abandoned
abbrev pub two_abandoned : List FateRow
two_abandoned = row 1 (Some 0) (Completed 0x03) ∷ row 2 (Some 0) Abandoned ∷ row 3 (Some 0) Abandoned ∷ []

-- two members are done, and one is aborted
abbrev pub one_aborted : List FateRow
one_aborted = row 4 (Some 0) (Aborted 4) ∷ two_done

-- a third member is held
abbrev pub third_held : Content
third_held = (held_entry 3 3 (Some 0) no_op 0 false ∷ []) ∷ []

-- the note of the batch, of which so many members were fetched
abbrev pub note_of : ℕ → Bool → BatchNote
note_of fetched closed = record { batch = 0; count = 4; fetched = fetched; failed = false; closed = closed }
