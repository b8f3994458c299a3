-- What is noted of the batch of an engine.
use Rattle.std.specs.Prelude.{ℕ, List, [], ◌++◌, Option, Some, None, codes, decimal}
use Rattle.dsa_book.specs.declared.note.BatchNote.{BatchNote}
use Rattle.dsa_event_text.specs.Text.{truth_text}
use Rattle.dsa_trace.specs.declared.form.Trace.{Trace, TheVariants.{Json}}
use Rattle.dsa_trace.specs.declared.form.Part.TheVariants.{NoBatch, Batch, ObjectEnd}
use Rattle.dsa_trace.specs.Marks.{mark}

-- the name of the batch, how many members it has, how many were fetched, whether one has failed, and whether the batch
-- is closed
abbrev pub batch_members : BatchNote → List ℕ
batch_members note =
    (codes "\"name\":" ++ decimal note.batch) ++ (codes ",\"count\":" ++ decimal note.count)
    ++ (codes ",\"fetched\":" ++ decimal note.fetched) ++ (codes ",\"failed\":" ++ truth_text note.failed)
    ++ (codes ",\"closed\":" ++ truth_text note.closed)

-- what is noted of the batch that the engine works on; a row does not show it (profile)
abbrev pub batch_part : Trace → Option BatchNote → List ℕ
batch_part Json None = mark Json NoBatch
batch_part Json (Some note) = mark Json Batch ++ batch_members note ++ mark Json ObjectEnd
batch_part _ _ = []
