use Rattle.dsa_explore.proofs.tries.tries_at.Goals as goal
use Rattle.dsa_parties.specs.declared.places.Move.TheVariants as move
use Rattle.std.proofs.Common.{arith}
use Rattle.dsa_explore.proofs.Listing.{lists-more, covers}

pub returns : goal.returns
returns c = λ fine w m reply step.
    let script = c.args.plan.now.script.now in
    let walked = c.args.walked.now in
    covers c.args.plan.now.caps script walked c.add_engines.new.tries.items fine
    (λ k below. lists-more script walked c.add_clients.new.tries.items c.add_engines.new.tries.items (move.Client k)
    (λ t i. c.in_ok-add_engines.ensures.kept t (c.in_ok-add_administrators.ensures.kept t i))
    (c.in_ok-add_clients.ensures.lists k (omega (arith, below, c.len.ensures, script.clients.ok.0))))
    (λ k below. lists-more script walked c.add_administrators.new.tries.items c.add_engines.new.tries.items
    (move.Administrator k) c.in_ok-add_engines.ensures.kept (c.in_ok-add_administrators.ensures.lists k
    (omega (arith, below, c.len-2.ensures, script.administrators.ok.0))))
    (λ e i. c.in_ok-add_engines.ensures.lists e (rw c.as_slice.ensures.value i)) w m reply step
