use Rattle.dsa_plans.proofs.plans.script_of.Goals as goal
use Rattle.std.proofs.Common.{length, map}
use Rattle.serde_json.specs.View.{view}
use Rattle.dsa_plans.proofs.Fit.{clients-fit, administrators-fit, tables-fit}

pub few_script-requires : goal.few_script-requires
few_script-requires c =
    let e = rw (c.new-entries.ensures.items, c.new-clients.ensures.items) at c.in_ok-add_clients.ensures.ok in
    let a =
    rw (c.new-acts.ensures.items, c.new-administrators.ensures.items) at c.in_ok-add_administrators.ensures.ok in
    tables-fit c.args.lists.engines.items
    (c.add_clients.new.entries.items, c.add_clients.new.clients.items)
    (c.add_administrators.new.acts.items, c.add_administrators.new.administrators.items)
    (clients-fit (map view c.args.lists.clients.now) _ e)
    (administrators-fit (length c.args.lists.clients.now) (map view c.args.lists.administrators.now) _ a)
