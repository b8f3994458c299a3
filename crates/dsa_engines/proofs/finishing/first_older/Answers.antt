use Rattle.dsa_engines.proofs.finishing.first_older.Goals as goal
use Rattle.std.proofs.Common.{rules, ◌∙◌, Bool, sym}
use Rattle.std.proofs.lemmas.Iterator.Adapters.{option_map_id}
use Rattle.std.proofs.lemmas.Iterator.Search.{find_from_yields_List, YieldsList-from_take_while}
use Rattle.std.specs.Prelude.{nat_lt}
use Rattle.dsa_store.{specs.Content.{HeldEntry}, proofs.Walks.{walked}}
use Rattle.dsa_book.specs.Work.{waits_for}
use Rattle.dsa_engines.proofs.Draining.{find-older}
use borrow.Author.Tests.{tests}

pub returns : goal.returns
returns g c =
    let waited : HeldEntry → Bool = λ pair. waits_for c.args.drain.now pair.1 in
    let older : HeldEntry → Bool = λ pair. nat_lt pair.1.name c.args.drain.now.name in
    sym (option_map_id c.find.result)
    ∙ find_from_yields_List waited _ _ c.find.result c.find.ensures.ran
    (YieldsList-from_take_while {s = c.take_while.result} _ older
    (walked (c.take_while.ensures.source ∙ c.held_entries.ensures)) c.take_while.ensures.closure
    c.take_while.ensures.done (λ x b q k. search (rules, tests))) (λ x b q k. search (rules, tests))
    ∙ find-older c.args.drain.now _ c.requires.order
