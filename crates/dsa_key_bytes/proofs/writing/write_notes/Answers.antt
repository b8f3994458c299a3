use Rattle.std.proofs.Common.{◌≡◌, ◌∷◌, List, ℕ, length, slice_index, Option, None, option_map, ap, sym, ◌∙◌, arith}
use Rattle.std.specs.List.{flat_map}
use Rattle.std.proofs.lemmas.List.{take_all, length-map}
use Rattle.dsa_regs.specs.declared.Caps.{Caps}
use Rattle.dsa_book.specs.declared.note.BatchNote.{BatchNote}
use Rattle.dsa_keys.specs.Labels.{Labels, labelled_note}
use Rattle.dsa_device.proofs.Known.{shape_of}
use Rattle.dsa_key_bytes.specs.{Line.{with_numbers}, KeyBytes.{optional, numbers_of_note}}
use Rattle.dsa_key_bytes.proofs.{Lines.{with_count-more, renumber}, Walked.{flat_map-map}}
use Rattle.dsa_key_bytes.proofs.writing.write_notes.Goals as goal

-- the numbers of a note by labels
abbrev labelled : Labels → Option BatchNote → List ℕ
labelled labels note = optional numbers_of_note (option_map (labelled_note labels) note)

pub loop-engine-init : goal.loop-engine-init
loop-engine-init g c =
    let shape = shape_of c.args.device.now c.state_is_replay.ensures.past in
    renumber c.args.line.now c.write_number.new.self _ (length c.args.device.now.state.work.notes)
    c.write_number.ensures (c.from.ensures ∙ ap (λ (caps : Caps). caps.engines) c.caps-caps.ensures ∙ sym shape.notes)

pub loop-engine-preserved : goal.loop-engine-preserved
loop-engine-preserved g c =
    let notes = c.args.device.now.state.work.notes in
    let shape = shape_of c.args.device.now c.state_is_replay.ensures.past in
    let count : c.caps-caps.result.engines ≡ length notes
    = ap (λ (caps : Caps). caps.engines) c.caps-caps.ensures ∙ sym shape.notes in
    with_count-more (labelled (slice_index c.args.labels.now)) c.args.line.now c.loop-engine.line c.write_note.new.line
    (length notes) notes c.loop-engine.engine None (omega (arith, c.loop-engine-test.true, count)) c.loop-engine.invariant
    (c.write_note.ensures
    ∙ ap (λ note. with_numbers c.loop-engine.line (labelled (slice_index c.args.labels.now) note)) c.batch.ensures)

pub returns : goal.returns
returns g c =
    let notes = c.args.device.now.state.work.notes in
    let shape = shape_of c.args.device.now c.state_is_replay.ensures.past in
    let count : c.caps-caps.result.engines ≡ length notes
    = ap (λ (caps : Caps). caps.engines) c.caps-caps.ensures ∙ sym shape.notes in
    c.loop-engine.invariant
    ∙ ap (λ all. with_numbers c.args.line.now
    (length notes ∷ flat_map (labelled (slice_index c.args.labels.now)) all))
    (take_all c.loop-engine.engine notes (omega (arith, c.loop-engine-test.false, count)))
    ∙ (λ j. with_numbers c.args.line.now
    (sym (length-map notes (option_map (labelled_note (slice_index c.args.labels.now)))) j
    ∷ sym (flat_map-map (optional numbers_of_note) (option_map (labelled_note (slice_index c.args.labels.now))) notes) j))
