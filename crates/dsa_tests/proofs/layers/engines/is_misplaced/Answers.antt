use Rattle.dsa_tests.proofs.layers.engines.is_misplaced.Goals as goal
use Rattle.std.proofs.{Common.{rules, ◌==◌, not}, lemmas.Iterator.Search.{any_from_yields_List}}
use Rattle.dsa_store.{specs.Content.{HeldEntry}, proofs.Walks.{walked}}
use borrow.Author.Tests.{tests}

pub returns : goal.returns
returns g c =
    any_from_yields_List (λ (pair : HeldEntry). not (pair.1.queue == c.args.queue)) _ _ c.any.result c.any.ensures.ran
    (walked c.held_entries.ensures) (λ x b q k. search (rules, tests))
