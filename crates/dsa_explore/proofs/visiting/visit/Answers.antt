use Rattle.dsa_explore.proofs.visiting.visit.Goals as goal
use Rattle.std.proofs.Common.{◌≡◌, ◌∙◌, ◌+◌, ℕ, Some, List, option_map, length, sym, ap, subst, arith}
use Rattle.std.specs.Prelude.{slice_get}
use Rattle.std.proofs.lemmas.Option.{same_Some}
use Rattle.dsa_explore.specs.declared.stored.{Node.{Node}, Try.{Try}}
use Rattle.dsa_keys.specs.Parties.{Stored}
use Rattle.dsa_parties.specs.Standing.{Standing}
use Rattle.dsa_explore.specs.{Schedules.{IsScheduleTo}, Walked.{space_of, world_of}, Ways.{IsWay, TellWays}}
use Rattle.dsa_explore.proofs.{Growth.{In-get}, Scheduled.{scheduled-to}}

pub returns-in_default-2-clause-none : goal.returns-in_default-2-clause-none
returns-in_default-2-clause-none c = λ keeps x at.
    (rw c.in_default-2.is at c.in_ok-path.ensures.none) (space_of c.args.plan.now.caps c.args.plan.now.script.now)
    keeps.first keeps.table x
    (subst (λ (n : List Node). TellWays (space_of c.args.plan.now.caps c.args.plan.now.script.now) keeps.first n
    keeps.table) (sym c.as_slice-nodes.ensures.value) keeps.ways) at

pub returns-in_default-3-clause-none : goal.returns-in_default-3-clause-none
returns-in_default-3-clause-none c = λ keeps x at.
    let space = space_of c.args.plan.now.caps c.args.plan.now.script.now in
    let way = (rw c.in-Some-2.is at c.in_ok-path.ensures.way) space keeps.first keeps.table x
    (subst (λ (n : List Node). TellWays space keeps.first n keeps.table) (sym c.as_slice-nodes.ensures.value)
    keeps.ways) at in
    let early = keeps.early x (In-get keeps.table c.args.number x at) in
    let long = ap length c.as_slice-path.ensures.value in
    (rw c.in_default-3.is at (c.in_ok-kept.ensures.none
    (omega (arith, early, way.1, long, c.room_to_lead.ensures))
    (omega (arith, early, way.1, long, c.room_to_lead.ensures))))
    keeps.first x.world keeps.begun
    (subst (λ (l : List Try). IsWay space keeps.first l x.world) (sym c.as_slice-path.ensures.value) way.0)

pub returns-clause-visited : goal.returns-clause-visited
returns-clause-visited c = λ keeps.
    let space = space_of c.args.plan.now.caps c.args.plan.now.script.now in
    let ways = subst (λ (n : List Node). TellWays space keeps.first n keeps.table)
    (sym c.as_slice-nodes.ensures.value) keeps.ways in
    let as-long : (x : Stored Standing) → slice_get keeps.table c.args.number ≡ Some x
    → length c.as_slice-path.result.now ≡ x.level =
    λ x at. ap length c.as_slice-path.ensures.value
    ∙ ((rw c.in-Some-2.is at c.in_ok-path.ensures.way) space keeps.first keeps.table x ways at).1 in
    let leads-within : (x : Stored Standing) → slice_get keeps.table c.args.number ≡ Some x
    → c.room_to_lead.result ≡ length c.args.plan.now.setup.now + length c.as_slice-path.result.now =
    λ x at. omega (arith, keeps.early x (In-get keeps.table c.args.number x at), as-long x at, c.room_to_lead.ensures)
    in
    record {
      there = λ x at.
          let way = (rw c.in-Some-2.is at c.in_ok-path.ensures.way) space keeps.first keeps.table x ways at in
          let fits = leads-within x at in
          ((rw c.in-Some-3.is at (c.in_ok-kept.ensures.there (omega (arith, fits))))
          keeps.first x.world keeps.begun
          (subst (λ (l : List Try). IsWay space keeps.first l x.world) (sym c.as_slice-path.ensures.value) way.0)).1;
      level = λ x at.
          let node = ways.each c.args.number x at in
          same_Some c.in-Some.level node.0.level
          (sym c.in-Some.is ∙ c.level_of.ensures ∙ ap (option_map (λ (n : Node). n.level)) node.1)
          ∙ ways.levels c.args.number node.0 x node.1 at;
      schedule = λ x at.
          subst (λ (n : ℕ). IsScheduleTo c.args.plan.now.caps c.args.plan.now.script.now c.args.plan.now.setup.now n
          (world_of c.in-Some-3.kept.walked.value) c.in-Some-3.kept.steps.items) (as-long x at)
          (scheduled-to c.args.plan.now.caps c.args.plan.now.script.now c.args.plan.now.setup.now
          c.room_to_lead.result (length c.as_slice-path.result.now) c.in-Some-3.kept.steps.items
          c.in-Some-3.kept.walked.value (rw c.in-Some-3.is at c.in_ok-kept.ensures.kept) (leads-within x at));
    }
