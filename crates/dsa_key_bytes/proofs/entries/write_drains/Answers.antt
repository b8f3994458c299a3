use Rattle.std.proofs.Common.{◌≡◌, length, ap, sym, ◌∙◌, arith}
use Rattle.std.specs.List.{flat_map}
use Rattle.std.proofs.lemmas.List.{take_all}
use Rattle.dsa_regs.specs.{declared.Caps.{Caps}, Caps.{list_number, list_count}}
use Rattle.dsa_store.specs.Content.{Content, all_held, chain}
use Rattle.dsa_device.proofs.Known.{shape_of}
use Rattle.dsa_key_bytes.specs.{Line.{with_numbers}, Marks.{drain_numbers}}
use Rattle.dsa_key_bytes.proofs.{Lines.{with_numbers-nil}, Walked.{lists-more}}
use Rattle.dsa_key_bytes.proofs.entries.write_drains.Goals as goal

pub loop-number-init : goal.loop-number-init
loop-number-init g c = sym (with_numbers-nil c.args.line.now)

pub loop-number-preserved : goal.loop-number-preserved
loop-number-preserved g c =
    let content = c.args.device.now.state.work.content in
    let shape = shape_of c.args.device.now c.state_is_replay.ensures.past in
    let lists : c.list_count-number-end.result ≡ length content
    = c.list_count-number-end.ensures ∙ ap list_count c.caps-caps.ensures ∙ sym shape.lists in
    let list : list_number c.args.device.now.caps c.list_use.result ≡ c.loop-number.number
    = ap (λ (caps : Caps). list_number caps c.list_use.result) (sym c.caps-caps.ensures)
    ∙ c.list_use.ensures.number in
    lists-more (drain_numbers c.args.device.now.state) c.args.line.now c.loop-number.line c.write_drains_of.new.line
    content c.loop-number.number (omega (arith, c.loop-number-test.true, lists)) c.loop-number.invariant
    (c.write_drains_of.ensures
    ∙ ap (λ k. with_numbers c.loop-number.line (flat_map (drain_numbers c.args.device.now.state) (chain content k))) list)

pub returns : goal.returns
returns g c =
    let content = c.args.device.now.state.work.content in
    let shape = shape_of c.args.device.now c.state_is_replay.ensures.past in
    let lists : c.list_count-number-end.result ≡ length content
    = c.list_count-number-end.ensures ∙ ap list_count c.caps-caps.ensures ∙ sym shape.lists in
    c.loop-number.invariant
    ∙ ap (λ (all : Content). with_numbers c.args.line.now (flat_map (drain_numbers c.args.device.now.state) (all_held all)))
    (take_all c.loop-number.number content (omega (arith, c.loop-number-test.false, lists)))
