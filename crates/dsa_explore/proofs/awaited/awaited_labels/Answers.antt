use Rattle.dsa_explore.proofs.awaited.awaited_labels.Goals as goal
use Rattle.std.proofs.Common.{◌≡◌, ◌∙◌, ◌++◌, length, ap, sym, arith}
use Rattle.std.proofs.lemmas.List.{take_all}
use Rattle.dsa_regs.specs.{declared.Caps.{Caps}, Caps.{list_number, list_count}}
use Rattle.dsa_store.specs.Content.{Content, all_held, chain}
use Rattle.dsa_device.proofs.Known.{shape_of}
use Rattle.dsa_explore.specs.{Findings.{awaited_among}, Rows.{labels_of}}
use Rattle.dsa_explore.proofs.Waits.{awaited-more}

pub loop-number-preserved : goal.loop-number-preserved
loop-number-preserved g c =
    let labels = labels_of c.args.labels.now in
    let active = c.args.device.now.state.active in
    let content = c.args.device.now.state.work.content in
    let shape = shape_of c.args.device.now c.state_is_replay.ensures.past in
    let lists : c.list_count-number-end.result ≡ length content
    = c.list_count-number-end.ensures ∙ ap list_count c.caps-caps.ensures ∙ sym shape.lists in
    let list : list_number c.args.device.now.caps c.list_use.result ≡ c.loop-number.number
    = ap (λ (caps : Caps). list_number caps c.list_use.result) (sym c.caps-caps.ensures)
    ∙ c.list_use.ensures.number in
    let entries : c.entries_of_list-entries.result ≡ chain content c.loop-number.number
    = c.entries_of_list-entries.ensures ∙ ap (chain content) list in
    awaited-more labels active content c.loop-number.number c.loop-number.found.items c.add_awaited.new.found.items
    (omega (arith, c.loop-number-test.true, lists)) c.loop-number.invariant
    (c.in_ok-add_awaited.ensures ∙ ap (λ l. c.loop-number.found.items ++ awaited_among labels active l) entries)

pub returns : goal.returns
returns g c =
    let labels = labels_of c.args.labels.now in
    let active = c.args.device.now.state.active in
    let content = c.args.device.now.state.work.content in
    let shape = shape_of c.args.device.now c.state_is_replay.ensures.past in
    let lists : c.list_count-number-end.result ≡ length content
    = c.list_count-number-end.ensures ∙ ap list_count c.caps-caps.ensures ∙ sym shape.lists in
    c.loop-number.invariant
    ∙ ap (λ (all : Content). awaited_among labels active (all_held all))
    (take_all c.loop-number.number content (omega (arith, c.loop-number-test.false, lists)))
