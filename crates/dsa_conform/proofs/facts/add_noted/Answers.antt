use Rattle.dsa_conform.proofs.facts.add_noted.Goals as goal
use Rattle.std.proofs.Common.{◌++◌, codes, decimal, subst}
use Rattle.dsa_event_text.specs.Added.{Adds}

pub returns : goal.returns
returns c =
    subst (λ n. Adds c.add_counted.result c.args.text.now c.add_counted.new.text
    (codes "an error of q" ++ decimal n ++ codes " is noted"))
    c.from.ensures c.add_counted.ensures
