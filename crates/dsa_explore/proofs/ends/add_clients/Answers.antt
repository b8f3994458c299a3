use Rattle.dsa_explore.proofs.ends.add_clients.Goals as goal
use Rattle.dsa_parties.specs.declared.places.Move.TheVariants as move
use Rattle.dsa_parties.specs.Standing.{stand_of}
use Rattle.dsa_explore.specs.Asks.{ask_of, asked}
use Rattle.dsa_explore.proofs.Endings.{listed-more}

pub loop-client-preserved : goal.loop-client-preserved
loop-client-preserved c =
    listed-more (λ n. asked (ask_of c.args.plan.now.script.now (stand_of c.args.walked.now.places) (move.Client n)))
    c.loop-client.client _ _ _ c.loop-client.invariant c.in_ok-add_ask.ensures
