use Rattle.dsa_engines.proofs.engines.homes.Goals as goal
use Rattle.std.proofs.Common.{◌∙◌, length, ap, arith, Option, ℕ, ◌++◌, ◌∷◌, []}
use Rattle.dsa_base.proofs.NumberLists.{length-each}
use Rattle.dsa_regs.{specs.declared.Caps.{Caps}, proofs.CapsLemmas.{engines-bound}}
use Rattle.dsa_book.specs.Work.{group_in}
use Rattle.dsa_engines.proofs.Homes.{homes-more}

pub push-requires : goal.push-requires
push-requires c =
    let bound = engines-bound c.args.queues.now.setup.caps c.caps-engine-end.ensures.whole.lawful in
    let filled = ap length c.loop-engine.invariant
    ∙ length-each (group_in c.args.queues.now.setup.groups) c.loop-engine.engine in
    omega (arith, bound, ap (λ (x : Caps). x.engines) c.caps-engine-end.ensures.value, filled)

pub loop-engine-preserved : goal.loop-engine-preserved
loop-engine-preserved c =
    c.push.ensures.items ∙ ap (λ (x : Option ℕ). c.loop-engine.homes.items ++ x ∷ []) c.group_of.ensures.group
    ∙ homes-more (group_in c.args.queues.now.setup.groups) c.loop-engine.engine c.loop-engine.homes.items
    c.loop-engine.invariant
