use Rattle.dsa_explore.proofs.trying.go_to.Goals as goal
use Rattle.std.proofs.Common.{◌+◌, ◌^◌, ◌≤◌, ◌∙◌, ℕ, List, min, length, ap, sym, subst}
use Rattle.dsa_explore.specs.declared.stored.{Node.{Node}, Try.{Try}}
use Rattle.dsa_explore.specs.{Ready.{HasRoomLeft}, Walked.{space_of}, Ways.{IsWay, TellWays}}
use Rattle.dsa_explore.proofs.Ways.{both-ok, map-err, map-ok, tell-ways}

pub returns-in_default-clause-halted : goal.returns-in_default-clause-halted
returns-in_default-clause-halted c = λ first table x begun is at.
    let space = space_of c.args.plan.now.caps c.args.plan.now.script.now in
    absurd ((rw c.in_default.is at c.in_ok-path.ensures.none) space first table x
    (subst (λ (n : List Node). TellWays space first n table) (sym c.as_slice.ensures.value)
    (tell-ways space first c.args.search.now table is)) at)

pub returns-clause-there : goal.returns-clause-there
returns-clause-there c =
    both-ok c.in_ok-found.found c.in_ok-found.ensures.fine c.in_ok-found.ensures.there
    (λ walked fine there first table x begun is at.
    let space = space_of c.args.plan.now.caps c.args.plan.now.script.now in
    let way = (rw c.in-Some.is at c.in_ok-path.ensures.way) space first table x
    (subst (λ (n : List Node). TellWays space first n table) (sym c.as_slice.ensures.value)
    (tell-ways space first c.args.search.now table is)) at in
    record {
      fine = fine;
      keys = there first x.world begun
          (subst (λ (l : List Try). IsWay space first l x.world) (sym c.as_slice-2.ensures.value) way.0);
    })

pub returns-clause-room : goal.returns-clause-room
returns-clause-room c = map-ok c.in_ok-found.found c.in_ok-found.ensures.room
    (λ walked left first table x is at.
    let space = space_of c.args.plan.now.caps c.args.plan.now.script.now in
    let set_up = length c.args.plan.now.setup.now in
    let way = (rw c.in-Some.is at c.in_ok-path.ensures.way) space first table x
    (subst (λ (n : List Node). TellWays space first n table) (sym c.as_slice.ensures.value)
    (tell-ways space first c.args.search.now table is)) at in
    subst (λ (n : ℕ). HasRoomLeft (set_up + n) (min (2 ^ 20) (set_up + n + 16)) walked.value)
    (ap length c.as_slice-2.ensures.value ∙ way.1) left)

pub returns-clause-halted : goal.returns-clause-halted
returns-clause-halted c = map-err c.in_ok-found.found c.in_ok-found.ensures.halted
    (λ halt halts first table x begun is at.
    let space = space_of c.args.plan.now.caps c.args.plan.now.script.now in
    let set_up = length c.args.plan.now.setup.now in
    let way = (rw c.in-Some.is at c.in_ok-path.ensures.way) space first table x
    (subst (λ (n : List Node). TellWays space first n table) (sym c.as_slice.ensures.value)
    (tell-ways space first c.args.search.now table is)) at in
    let met = halts first x.world begun
    (subst (λ (l : List Try). IsWay space first l x.world) (sym c.as_slice-2.ensures.value) way.0) in (
      met.0,
      subst (λ (n : ℕ). 2 ^ 20 ≤ set_up + n) (ap length c.as_slice-2.ensures.value ∙ way.1) met.1,
    ))
