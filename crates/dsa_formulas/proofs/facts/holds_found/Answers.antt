use Rattle.dsa_formulas.proofs.facts.holds_found.Goals as goal
use Rattle.std.proofs.Common.{◌≡◌, ◌∙◌, false, get_or, length, ap, sym, arith}
use Rattle.std.proofs.lemmas.List.{take_all}
use Rattle.std.specs.List.{list_any}
use Rattle.dsa_regs.specs.{declared.Caps.{Caps}, Caps.{list_number, list_count}}
use Rattle.dsa_store.specs.Content.{HeldEntry, Content, all_held, chain}
use Rattle.dsa_keys.specs.Key.{labelled_entry}
use Rattle.dsa_device.proofs.Known.{shape_of}
use Rattle.dsa_formulas.specs.Facts.{is_found_so}
use Rattle.dsa_formulas.proofs.Found.{any-more, any-one}

pub loop-number-preserved : goal.loop-number-preserved
loop-number-preserved g c =
    let f = λ (pair : HeldEntry). is_found_so c.args.label c.args.being
    (labelled_entry (λ name. get_or c.args.labels.now name 0) pair) in
    let content = c.args.device.now.state.work.content in
    let shape = shape_of c.args.device.now c.state_is_replay.ensures.past in
    let lists : c.list_count-number-end.result ≡ length content
    = c.list_count-number-end.ensures ∙ ap list_count c.caps-caps.ensures ∙ sym shape.lists in
    let list : list_number c.args.device.now.caps c.list_use.result ≡ c.loop-number.number
    = ap (λ (caps : Caps). list_number caps c.list_use.result) (sym c.caps-caps.ensures)
    ∙ c.list_use.ensures.number in
    let entries : c.entries_of_list-entries.result ≡ chain content c.loop-number.number
    = c.entries_of_list-entries.ensures ∙ ap (chain content) list in
    any-more f content c.loop-number.number (omega (arith, c.loop-number-test.true, lists)) c.loop-number.invariant
    (ap (list_any f) (sym entries) ∙ sym c.has_found.ensures ∙ c.if-has_found.false)

pub returns-then-has_found : goal.returns-then-has_found
returns-then-has_found g c =
    let f = λ (pair : HeldEntry). is_found_so c.args.label c.args.being
    (labelled_entry (λ name. get_or c.args.labels.now name 0) pair) in
    sym (any-one f c.args.device.now.state.work.content (list_number c.args.device.now.caps c.list_use.result)
    (ap (list_any f) (sym c.entries_of_list-entries.ensures) ∙ sym c.has_found.ensures ∙ c.if-has_found.true))

pub returns : goal.returns
returns g c =
    let f = λ (pair : HeldEntry). is_found_so c.args.label c.args.being
    (labelled_entry (λ name. get_or c.args.labels.now name 0) pair) in
    let content = c.args.device.now.state.work.content in
    let shape = shape_of c.args.device.now c.state_is_replay.ensures.past in
    let lists : c.list_count-number-end.result ≡ length content
    = c.list_count-number-end.ensures ∙ ap list_count c.caps-caps.ensures ∙ sym shape.lists in
    sym (sym (ap (λ (all : Content). list_any f (all_held all))
    (take_all c.loop-number.number content (omega (arith, c.loop-number-test.false, lists)))) ∙ c.loop-number.invariant)
