use Rattle.dsa_explore.proofs.sampling.sample.Goals as goal
use Rattle.dsa_explore.proofs.sampling.sample.Goals.{then-is_in_shard+in_ok-add_walk, else-is_in_shard}
use Rattle.std.proofs.Common.{◌≡◌, ◌+◌, ◌^◌, ◌∙◌, arith, refl, subst, sym}
use Rattle.dsa_explore.specs.declared.{sampling.Tally.{Tally}, walking.Keys.{Keys}}
use Rattle.dsa_explore.specs.Walked.{world_of}
use Rattle.dsa_explore.proofs.Tallies.{IsSoFar, all-sampled, so-far-left, so-far-made, so-far-none}

pub loop-number-init : goal.loop-number-init
loop-number-init c = (
  so-far-none c.args.plan.now.caps c.args.plan.now.script.now c.args.plan.now.setup.now c.args.walks _
      c.new-rows.ensures.items refl refl refl,
  (c.in_ok-keys.ensures.before, c.in_ok-keys.ensures.after),
)

pub loop-number-preserved : goal.loop-number-preserved
loop-number-preserved c =
    let caps = c.args.plan.now.caps in
    let script = c.args.plan.now.script.now in
    let setup = c.args.plan.now.setup.now in
    let number = c.loop-number.number in
    elim c.if-is_in_shard.branch [
      | then-is_in_shard+in_ok-add_walk w ↦ (
        subst (λ (t : Tally). IsSoFar caps script setup c.args.walks (number + 1) t) (sym w.tally-is)
            (so-far-made caps script setup c.args.walks number c.loop-number.tally w.add_walk.new.tally
            c.loop-number.invariant.0 (sym c.is_in_shard.ensures ∙ w.if-is_in_shard.true)
            w.in_ok-add_walk.ensures.sampled w.in_ok-add_walk.ensures.walks w.in_ok-add_walk.ensures.steps),
        (
          subst (λ (k : Keys). k.before.line.capacity ≡ 2 ^ 20) (sym w.keys-is) w.in_ok-add_walk.ensures.before,
          subst (λ (k : Keys). k.after.line.capacity ≡ 2 ^ 20) (sym w.keys-is) w.in_ok-add_walk.ensures.after,
        ),
      )
      | else-is_in_shard w ↦ (
        subst (λ (t : Tally). IsSoFar caps script setup c.args.walks (number + 1) t) (sym w.tally-is)
            (so-far-left caps script setup c.args.walks number c.loop-number.tally c.loop-number.invariant.0
            (sym c.is_in_shard.ensures ∙ w.if-is_in_shard.false)),
        (
          subst (λ (k : Keys). k.before.line.capacity ≡ 2 ^ 20) (sym w.keys-is) c.loop-number.invariant.1.0,
          subst (λ (k : Keys). k.after.line.capacity ≡ 2 ^ 20) (sym w.keys-is) c.loop-number.invariant.1.1,
        ),
      )
    ]

pub returns-clause-sampled : goal.returns-clause-sampled
returns-clause-sampled c =
    all-sampled c.args.plan.now.caps c.args.plan.now.script.now c.args.plan.now.setup.now c.args.walks
    c.loop-number.number c.loop-number.tally c.ended.result c.loop-number.invariant.0
    (omega (arith, c.loop-number-test.false, c.loop-number.auto.number-end)) (world_of c.in-Some.field-0.value)
    (rw c.in-Some.is at (c.in_ok-begin.ensures.begun refl)) (rw c.in-Some.is at c.in_ok-begin.ensures.fine)
    c.ended.ensures.walks c.ended.ensures.rows c.ended.ensures.tried c.ended.ensures.depth c.ended.ensures.states
    c.ended.ensures.ends c.ended.ensures.is_complete
