use Rattle.dsa_explain.proofs.awaiting.first_in.Goals as goal
use Rattle.std.proofs.Common.{rules, Bool, not, refl, sym, ◌∙◌}
use Rattle.std.proofs.lemmas.Iterator.Adapters.{option_map_id}
use Rattle.std.proofs.lemmas.Iterator.Search.{find_from_yields_List, YieldsList-from_take_while}
use Rattle.dsa_store.{specs.{declared.entry.Entry.{Entry}, Content.{HeldEntry}}, proofs.Walks.{walked}}
use Rattle.dsa_admin.specs.Admin.{is_waited_for}
use Rattle.dsa_explain.{specs.Wait.{is_late}, proofs.{Late.{found-within}, Holding.{find-told}}}
use borrow.Author.Tests.{tests}

pub returns-in_err-cell : goal.returns-in_err-cell
returns-in_err-cell g c =
    let waited : HeldEntry → Bool = λ pair. is_waited_for c.args.noted.now pair.1 in
    let early : HeldEntry → Bool = λ pair. not (is_late c.args.noted.now c.args.list pair.1) in
    let found = sym (option_map_id c.find.result)
    ∙ find_from_yields_List waited _ _ c.find.result c.find.ensures.ran
    (YieldsList-from_take_while {s = c.take_while.result} _ early
    (walked (c.take_while.ensures.source ∙ c.entries_of_list.ensures)) c.take_while.ensures.closure
    c.take_while.ensures.done (λ x b q k. search (rules, tests))) (λ x b q k. search (rules, tests))
    ∙ found-within c.state_is_replay.ensures.lawful.well_formed c.args.noted.now c.args.list c.requires in
    rw (
      c.from_residual.ensures,
      find-told (λ (e : Entry). is_waited_for c.args.noted.now e) c.args.list,
      ← found,
      c.in_err-cell.was,
    ) refl

pub returns : goal.returns
returns g c =
    let waited : HeldEntry → Bool = λ pair. is_waited_for c.args.noted.now pair.1 in
    let early : HeldEntry → Bool = λ pair. not (is_late c.args.noted.now c.args.list pair.1) in
    let found = sym (option_map_id c.find.result)
    ∙ find_from_yields_List waited _ _ c.find.result c.find.ensures.ran
    (YieldsList-from_take_while {s = c.take_while.result} _ early
    (walked (c.take_while.ensures.source ∙ c.entries_of_list.ensures)) c.take_while.ensures.closure
    c.take_while.ensures.done (λ x b q k. search (rules, tests))) (λ x b q k. search (rules, tests))
    ∙ found-within c.state_is_replay.ensures.lawful.well_formed c.args.noted.now c.args.list c.requires in
    rw (
      find-told (λ (e : Entry). is_waited_for c.args.noted.now e) c.args.list,
      ← found,
      c.in_ok-cell.was,
    ) refl
