use Rattle.std.proofs.Common.{◌≡◌, ◌∷◌, take, length, slice_index, Option, option_map}
use Rattle.std.specs.List.{flat_map}
use Rattle.dsa_book.specs.declared.note.BatchNote.{BatchNote}
use Rattle.dsa_keys.specs.Labels.{labelled_note}
use Rattle.dsa_key_bytes.specs.{Line.{with_numbers}, KeyBytes.{optional, numbers_of_note}}
use Rattle.dsa_key_bytes.proofs.writing.write_notes.Given as goal

abbrev pub invariant-loop-engine : goal.invariant-loop-engine
invariant-loop-engine g l = let notes = l.device.state.work.notes in
    l.line ≡ with_numbers l.fn.line (length notes ∷ flat_map
    (λ (note : Option BatchNote). optional numbers_of_note (option_map (labelled_note (slice_index l.labels)) note))
    (take l.engine notes))
