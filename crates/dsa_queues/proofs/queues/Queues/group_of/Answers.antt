use Rattle.dsa_queues.proofs.queues.Queues.group_of.Goals as goal
use Rattle.std.proofs.{Common.{arith}, lemmas.Grind.{common_steps}}
use Rattle.dsa_base.{specs.Numbers.{has}, proofs.FirstPlaces.{position-hit, position-none}}

pub returns-then-has_engine : goal.returns-then-has_engine
returns-then-has_engine c = grind (
  arith,
  common_steps,
  position-hit
      (λ g. has g.engines c.args.engine) c.args.self.now.setup.groups c.loop-group.group,
  c.self.invariant.whole,
  c.self.view_is,
  c.loop-group.invariant,
)

pub returns : goal.returns
returns c = grind (
  arith,
  common_steps,
  position-none
      (λ g. has g.engines c.args.engine) c.args.self.now.setup.groups,
  c.self.invariant.whole,
  c.self.view_is,
  c.loop-group.invariant,
)
