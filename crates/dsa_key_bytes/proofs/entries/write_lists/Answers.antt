use Rattle.std.proofs.Common.{◌≡◌, [], ◌∷◌, length, map, slice_index, ap, sym, ◌∙◌, arith}
use Rattle.std.specs.List.{flat_map}
use Rattle.std.proofs.lemmas.List.{take_all, length-map}
use Rattle.dsa_regs.specs.{declared.Caps.{Caps}, Caps.{list_number, list_count}}
use Rattle.dsa_store.specs.Content.{Content, chain}
use Rattle.dsa_keys.specs.Short.{short_entry}
use Rattle.dsa_device.proofs.Known.{shape_of}
use Rattle.dsa_key_bytes.specs.{Line.{with_numbers}, Marks.{label_numbers}}
use Rattle.dsa_key_bytes.proofs.{Lines.{with_count-more, renumber}, Walked.{lists-numbers}}
use Rattle.dsa_key_bytes.proofs.entries.write_lists.Goals as goal

pub loop-number-init : goal.loop-number-init
loop-number-init g c =
    let content = c.args.device.now.state.work.content in
    let shape = shape_of c.args.device.now c.state_is_replay.ensures.past in
    let lists : c.list_count-number-end.result ≡ length content
    = c.list_count-number-end.ensures ∙ ap list_count c.caps-caps.ensures ∙ sym shape.lists in
    renumber c.args.line.now c.write_number.new.self _ (length content) c.write_number.ensures
    (omega (arith, c.list_count.ensures, c.list_count-number-end.ensures, lists))

pub loop-number-preserved : goal.loop-number-preserved
loop-number-preserved g c =
    let content = c.args.device.now.state.work.content in
    let shape = shape_of c.args.device.now c.state_is_replay.ensures.past in
    let lists : c.list_count-number-end.result ≡ length content
    = c.list_count-number-end.ensures ∙ ap list_count c.caps-caps.ensures ∙ sym shape.lists in
    let list : list_number c.args.device.now.caps c.list_use.result ≡ c.loop-number.number
    = ap (λ (caps : Caps). list_number caps c.list_use.result) (sym c.caps-caps.ensures)
    ∙ c.list_use.ensures.number in
    with_count-more (label_numbers (slice_index c.args.labels.now)) c.args.line.now c.loop-number.line
    c.write_labels.new.line (length content) content c.loop-number.number []
    (omega (arith, c.loop-number-test.true, lists)) c.loop-number.invariant
    (c.write_labels.ensures
    ∙ ap (λ k. with_numbers c.loop-number.line (label_numbers (slice_index c.args.labels.now) (chain content k))) list)

pub returns : goal.returns
returns g c =
    let content = c.args.device.now.state.work.content in
    let shape = shape_of c.args.device.now c.state_is_replay.ensures.past in
    let lists : c.list_count-number-end.result ≡ length content
    = c.list_count-number-end.ensures ∙ ap list_count c.caps-caps.ensures ∙ sym shape.lists in
    c.loop-number.invariant
    ∙ ap (λ (all : Content). with_numbers c.args.line.now
    (length content ∷ flat_map (label_numbers (slice_index c.args.labels.now)) all))
    (take_all c.loop-number.number content (omega (arith, c.loop-number-test.false, lists)))
    ∙ (λ j. with_numbers c.args.line.now (sym (length-map content (map (short_entry (slice_index c.args.labels.now)))) j
    ∷ sym (lists-numbers (slice_index c.args.labels.now) content) j))
