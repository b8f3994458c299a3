use Rattle.dsa_explore.proofs.walking.step_on.Goals as goal
use Rattle.dsa_explore.proofs.walking.step_on.Goals.{in-Nowhere, in-Back}
use Rattle.std.proofs.Common.{◌≡◌, ◌+◌, ◌++◌, ◌^◌, ◌<◌, ◌≤◌, ◌⊎◌, ◌∙◌, ◌∷◌, [], List, ap, arith, false, true, length}
use Rattle.std.proofs.Common.{subst, sym, ⊎_elim}
use Rattle.dsa_base.{specs.Lists.{In}, proofs.Lists.{In-length}}
use Rattle.dsa_explore.specs.declared.{stored.Try.{Try}}
use Rattle.dsa_explore.specs.{Trying.{IsThere}, Walked.{space_of, world_of}, Ways.{IsWay}}
use Rattle.dsa_explore.specs.Walking.{HasStopped, IsAtWalk, IsTriedBack}
use Rattle.dsa_explore.proofs.Lawful.{byte-keys, space-lawful}
use Rattle.dsa_explore.proofs.WalkSteps.{left-less, removed-less, turn-back, turn-far, turn-full, turn-last}
use Rattle.dsa_explore.proofs.WalkSteps.{turn-nowhere, turn-on}

pub returns-in_default-clause-stopped : goal.returns-in_default-clause-stopped
returns-in_default-clause-stopped c = λ first begun at covers.
    let space = space_of c.args.plan.now.caps c.args.plan.now.script.now in
    let set_up = length c.args.plan.now.setup.now in
    let come = (c.loop-turn.invariant.0 first begun at).0 in
    let same = c.as_slice.ensures.value ∙ c.loop-turn.invariant.1.0 in
    let full = (rw c.in_default.is at c.in_ok-here.ensures.none) first at.last begun
    (subst (λ (l : List Try). IsWay space first l at.last) (sym same) come.leads) in
    subst (λ (l : List Try). HasStopped space first set_up l c.loop-turn.walk.rows.items)
    (sym c.loop-turn.invariant.1.0)
    (turn-full space first set_up c.args.walk.now.way.items c.loop-turn.walk.rows.items at.last come
    (subst (λ (l : List Try). 2 ^ 20 ≤ set_up + length l) same full))

pub returns-in-On-clause-on : goal.returns-in-On-clause-on
returns-in-On-clause-on c = λ first begun at.
    let caps = c.args.plan.now.caps in
    let script = c.args.plan.now.script.now in
    let space = space_of caps script in
    let t = c.loop-turn.invariant.0 first begun at in
    let same = c.as_slice.ensures.value ∙ c.loop-turn.invariant.1.0 in
    let there = subst (λ (l : List Try). IsThere space (record { level = length l; world = at.last })
    (world_of c.in-Some.here.value)) same
    ((rw c.in-Some.is at c.in_ok-here.ensures.there) first at.last begun
    (subst (λ (l : List Try). IsWay space first l at.last) (sym same) t.0.leads)
    (λ is. subst (λ (l : List Try). IsThere space (record { level = length l; world = at.last })
    (world_of c.loop-turn.walked.value)) (sym same) (t.1.0 is).0)) in
    let labels = (rw c.in-Some.is at c.in_ok-here.ensures.labels) (λ is. (t.1.0 is).1) in
    subst (λ (l : List Try). IsAtWalk space first l c.try_once.new.rows.items c.try_once.new.walked)
    (sym (c.in_ok-push-in-On.ensures.items ∙ ap (λ (l : List Try). l ++ c.in-On.taken ∷ []) c.loop-turn.invariant.1.0))
    (turn-on caps script first c.args.walk.now.way.items c.loop-turn.walk.rows.items at.last t.0
    c.in-Some.here.value there labels c.remove-tried.result c.try_once.new.walked _ c.loop-turn.invariant.1.1.1.0
    c.try_once.new.rows.items c.in-On.taken
    (rw (c.in-On.is, c.deref_mut.ensures.value) at c.in_ok-led.ensures.led))

pub returns-in-TooFar-clause-stopped : goal.returns-in-TooFar-clause-stopped
returns-in-TooFar-clause-stopped c = λ first begun at covers.
    let caps = c.args.plan.now.caps in
    let script = c.args.plan.now.script.now in
    let space = space_of caps script in
    let set_up = length c.args.plan.now.setup.now in
    let t = c.loop-turn.invariant.0 first begun at in
    let same = c.as_slice.ensures.value ∙ c.loop-turn.invariant.1.0 in
    let there = subst (λ (l : List Try). IsThere space (record { level = length l; world = at.last })
    (world_of c.in-Some.here.value)) same
    ((rw c.in-Some.is at c.in_ok-here.ensures.there) first at.last begun
    (subst (λ (l : List Try). IsWay space first l at.last) (sym same) t.0.leads)
    (λ is. subst (λ (l : List Try). IsThere space (record { level = length l; world = at.last })
    (world_of c.loop-turn.walked.value)) (sym same) (t.1.0 is).0)) in
    let labels = (rw c.in-Some.is at c.in_ok-here.ensures.labels) (λ is. (t.1.0 is).1) in
    subst (λ (l : List Try). HasStopped space first set_up l c.try_once.new.rows.items) (sym c.loop-turn.invariant.1.0)
    (turn-far caps script first c.args.walk.now.way.items c.loop-turn.walk.rows.items at.last t.0
    c.in-Some.here.value there labels c.remove-tried.result c.try_once.new.walked _ c.loop-turn.invariant.1.1.1.0
    c.try_once.new.rows.items set_up
    (rw (c.in-TooFar.is, c.deref_mut.ensures.value) at c.in_ok-led.ensures.led))

pub loop-turn-preserved : goal.loop-turn-preserved
loop-turn-preserved c = (
  λ first begun at.
      let caps = c.args.plan.now.caps in
      let script = c.args.plan.now.script.now in
      let space = space_of caps script in
      let t = c.loop-turn.invariant.0 first begun at in
      let way = c.args.walk.now.way.items in
      let old = c.loop-turn.walk.rows.items in
      let more = c.try_once.new.rows.items in
      let here = c.in-Some.here.value in
      let new = c.try_once.new.walked in
      let left = c.loop-turn.left.items in
      let tried = c.remove-tried.result in
      let same = c.as_slice.ensures.value ∙ c.loop-turn.invariant.1.0 in
      let there = subst (λ (l : List Try). IsThere space (record { level = length l; world = at.last }) (world_of here))
      same
      ((rw c.in-Some.is at c.in_ok-here.ensures.there) first at.last begun
      (subst (λ (l : List Try). IsWay space first l at.last) (sym same) t.0.leads)
      (λ is. subst (λ (l : List Try). IsThere space (record { level = length l; world = at.last })
      (world_of c.loop-turn.walked.value)) (sym same) (t.1.0 is).0)) in
      let labels = (rw c.in-Some.is at c.in_ok-here.ensures.labels) (λ is. (t.1.0 is).1) in
      let room = rw c.in-Some.is at c.in_ok-here.ensures.room in
      let led = rw c.deref_mut.ensures.value at c.in_ok-led.ensures.led in
      let below : c.choose.result < length left = omega (arith, c.choose.ensures.below, c.len-in-loop-turn.ensures) in
      let all = c.args.tries.items in
      elim c.match-led.branch [
        | in-Nowhere w ↦
            let turn = turn-nowhere caps script first way old at.last t.0 here there labels tried new _
            c.loop-turn.invariant.1.1.1.0 more room (rw w.in-Nowhere.is at led) in (
              turn.come,
              (
                (λ e. let clash : false ≡ true = sym w.is_there-is ∙ e in absurd cc),
                subst (λ (l : List Try). (t : Try) → In t all → In t l ⊎ IsTriedBack space more (length way) at.last t)
                    (sym c.remove-tried.ensures.items)
                    (left-less space first way old at.last tried more turn all left c.choose.result _ below
                    c.remove-tried.ensures.value t.1.1),
              ),
            )
        | in-Back w ↦
            let turn = turn-back caps script first way old at.last t.0 here there labels tried new _
            c.loop-turn.invariant.1.1.1.0 more (rw w.in-Back.is at led) in (
              turn.0.come,
              (
                (λ e. turn.1),
                subst (λ (l : List Try). (t : Try) → In t all → In t l ⊎ IsTriedBack space more (length way) at.last t)
                    (sym c.remove-tried.ensures.items)
                    (left-less space first way old at.last tried more turn.0 all left c.choose.result _ below
                    c.remove-tried.ensures.value t.1.1),
              ),
            )
      ],
  (
    c.loop-turn.invariant.1.0,
    (
      omega (
        arith,
        c.loop-turn.invariant.1.1.0,
        ap length c.remove-tried.ensures.items,
        removed-less c.loop-turn.left.items c.choose.result
            (omega (arith, c.choose.ensures.below, c.len-in-loop-turn.ensures)),
      ),
      (c.loop-turn.invariant.1.1.1.0, (c.in_ok-led.ensures.before, c.in_ok-led.ensures.after)),
    ),
  ),
)

pub returns-clause-stopped : goal.returns-clause-stopped
returns-clause-stopped c = λ first begun at covers.
    let caps = c.args.plan.now.caps in
    let script = c.args.plan.now.script.now in
    let space = space_of caps script in
    let set_up = length c.args.plan.now.setup.now in
    let t = c.loop-turn.invariant.0 first begun at in
    subst (λ (l : List Try). HasStopped space first set_up l c.loop-turn.walk.rows.items)
    (sym c.loop-turn.invariant.1.0)
    (turn-last space (space-lawful caps script) byte-keys first set_up c.args.walk.now.way.items
    c.loop-turn.walk.rows.items at.last t.0 (world_of c.args.at_first.value) at.there.fine at.there.keys
    c.args.tries.items covers
    (λ tried i. ⊎_elim
    (λ j. absurd (omega (
      arith,
      In-length _ c.loop-turn.left.items j,
      c.loop-turn.invariant.1.1.0,
      c.loop-turn-test.false,
      c.len-turn-end.ensures,
    )))
    (λ done. done) (t.1.1 tried i)))
