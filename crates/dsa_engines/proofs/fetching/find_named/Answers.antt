use Rattle.dsa_engines.proofs.fetching.find_named.Goals as goal
use Rattle.std.proofs.Common.{rules, ◌==◌, ◌∙◌, sym}
use Rattle.std.proofs.lemmas.Iterator.{Adapters.{option_map_id}, Search.{find_from_yields_List}}
use Rattle.dsa_store.{specs.Content.{HeldEntry}, proofs.Walks.{walked}}
use borrow.Author.Tests.{tests}

pub returns : goal.returns
returns g c =
    sym (option_map_id c.find.result)
    ∙ find_from_yields_List (λ (pair : HeldEntry). pair.1.name == c.args.name) _ _ c.find.result c.find.ensures.ran
    (walked c.held_entries.ensures) (λ x b q k. search (rules, tests))
