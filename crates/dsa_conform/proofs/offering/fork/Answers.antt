use Rattle.dsa_conform.proofs.offering.fork.Goals as goal
use Rattle.std.proofs.Common.{◌∙◌, sym, subst}
use Rattle.dsa_conform.specs.{Seen.{seen_as}, Ways.{IsFork}}
use Rattle.dsa_conform.proofs.Forks.{other_way, full_way}

pub returns-in_default : goal.returns-in_default
returns-in_default g c =
    subst (λ l. IsFork c.args.device.now c.args.asked.now (seen_as c.args.seen.now) l) (sym c.new-none.ensures.items)
    (other_way c.args.device.now c.args.asked.now (seen_as c.args.seen.now)
    (rw c.in_default.is at c.asked_engine.ensures))

pub returns-then-is_full : goal.returns-then-is_full
returns-then-is_full g c =
    subst (λ l. IsFork c.args.device.now c.args.asked.now (seen_as c.args.seen.now) l) (sym c.new-none.ensures.items)
    (full_way c.args.device.now c.args.asked.now (seen_as c.args.seen.now) (sym c.is_full.ensures ∙ c.if-is_full.true))
