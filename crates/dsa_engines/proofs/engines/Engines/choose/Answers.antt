use Rattle.dsa_engines.proofs.engines.Engines.choose.Goals as goal
use Rattle.std.proofs.Common.{◌∙◌, sym}
use Rattle.dsa_engines.proofs.Dispatching.{next-best, last-best}
use Rattle.dsa_engines.proofs.engines.Engines.choose.Goals.{then-is_better, else-is_better}

pub loop-queue-preserved : goal.loop-queue-preserved
loop-queue-preserved g c = elim c.if-is_better.branch [
  | then-is_better w ↦ rw w.best-is (c.is_better.ensures.better w.if-is_better.true)
  | else-is_better w ↦ rw w.best-is (next-best c.requires.in_step c.requires.group c.loop-queue.best
      c.loop-queue.invariant (rw (← c.group-config.ensures) c.in-Some.ensures.number)
      (λ none. sym w.if-is_better.false ∙ c.is_better.ensures.first none))
]

pub returns : goal.returns
returns g c =
    last-best c.requires.in_step c.requires.group c.loop-queue.best c.loop-queue.invariant
    (rw (← c.group-config.ensures) c.in_default.ensures.number)
