use Rattle.dsa_explore.proofs.trying.walk.Goals as goal
use Rattle.std.proofs.Common.{◌+◌, ◌<◌, ◌^◌, ◌∙◌, length, refl, ⊎_elim, arith}
use Rattle.std.proofs.lemmas.Bool.{cases_lt}
use Rattle.dsa_explore.proofs.Begun.{has-room}

pub returns-in_default-clause-halted : goal.returns-in_default-clause-halted
returns-in_default-clause-halted c = λ first x begun way. (
  refl,
  ⊎_elim (λ (few : length c.args.plan.now.setup.now + length c.args.path.now < 2 ^ 20).
      absurd ((rw c.in_default.is at (c.in_ok-kept.ensures.none (omega (arith, few, c.room_for.ensures))
      (omega (arith, c.room_for.ensures)))) first x begun way))
      (λ many. omega (arith, many))
      (cases_lt (length c.args.plan.now.setup.now + length c.args.path.now) (2 ^ 20)),
)

pub returns-clause-there : goal.returns-clause-there
returns-clause-there c = λ first x begun way.
    let fits = has-room c.args.plan.now.caps c.args.plan.now.script.now c.args.plan.now.setup.now first
    (length c.args.path.now) _ begun c.room_for.ensures in
    ((rw c.in-Some.is at (c.in_ok-kept.ensures.there fits.0)) first x begun way).1

pub returns-clause-room : goal.returns-clause-room
returns-clause-room c =
    let left = rw c.in-Some.is at c.in_ok-kept.ensures.room in
    record { few = left.few; room_is = left.room_is ∙ c.room_for.ensures }
