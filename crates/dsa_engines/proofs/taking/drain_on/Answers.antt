use Rattle.dsa_engines.proofs.taking.drain_on.Goals as goal
use Rattle.std.proofs.Common.{rules, ◌∙◌, sym}
use Rattle.std.proofs.lemmas.Iterator.{Adapters.{option_map_id}, Search.{find_from_yields_List}}
use Rattle.dsa_store.{specs.Content.{HeldEntry}, proofs.Walks.{walked}}
use Rattle.dsa_book.specs.State.{is_drain_of}
use borrow.Author.Tests.{tests}

pub returns : goal.returns
returns g c =
    rw (← c.list-progress.ensures) (sym (option_map_id c.find.result)
    ∙ find_from_yields_List (λ (pair : HeldEntry). is_drain_of c.args.queues.now.setup pair.1) _ _
    c.find.result c.find.ensures.ran (walked c.held_entries.ensures) (λ x b q k. search (rules, tests)))
