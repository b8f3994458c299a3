use Rattle.std.proofs.Common.{rules}
use borrow.Author.Tests.{tests}
use Rattle.std.proofs.lemmas.Iterator.{YieldsList-from_map, YieldsList-from_slice, items_from_collect}
use Rattle.dsa_parties.specs.Standing.{place_first}
use Rattle.dsa_parties.proofs.begin.first_client_places.Goals as goal

pub returns : goal.returns
returns c = items_from_collect _ c.collect.ensures.ran
    (YieldsList-from_map _ place_first (YieldsList-from_slice c.args.clients.now cc) c.map.ensures.closure
    (λ x r q k. search (rules, tests)))
