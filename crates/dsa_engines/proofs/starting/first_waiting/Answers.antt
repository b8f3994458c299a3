use Rattle.dsa_engines.proofs.starting.first_waiting.Goals as goal
use Rattle.std.proofs.Common.{rules, not, ◌∙◌, sym, refl}
use Rattle.std.proofs.lemmas.Iterator.{Adapters.{option_map_id}, Search.{find_from_yields_List}}
use Rattle.dsa_store.{specs.Content.{HeldEntry}, proofs.Walks.{walked}}
use Rattle.dsa_engines.proofs.Members.{found-from}
use borrow.Author.Tests.{tests}

pub returns-in-Some : goal.returns-in-Some
returns-in-Some g c =
    sym (option_map_id c.find.result)
    ∙ find_from_yields_List (λ (pair : HeldEntry). not pair.1.running) _ _ c.find.result c.find.ensures.ran
    (walked c.entries_from.ensures) (λ x b q k. search (rules, tests))
    ∙ found-from _ c.args.list.0 c.in-Some.cell (g.met.S.EntryStore.sound c.args.store.now).once
    (sym c.is_running_in.ensures ∙ c.if-is_running_in.true) (c.requires.order (rw c.in-Some.is refl))

pub returns-in_default : goal.returns-in_default
returns-in_default g c =
    sym (option_map_id c.find-in_default.result)
    ∙ find_from_yields_List (λ (pair : HeldEntry). not pair.1.running) _ _ c.find-in_default.result
    c.find-in_default.ensures.ran (walked c.held_entries.ensures) (λ x b q k. search (rules, tests))
