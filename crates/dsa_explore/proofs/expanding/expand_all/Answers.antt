use Rattle.dsa_explore.proofs.expanding.expand_all.Goals as goal
use Rattle.std.proofs.Common.{◌≡◌, ◌∙◌, ◌+◌, ◌≤◌, List, ℕ, length, subst, arith, refl, sym}
use Rattle.dsa_explore.specs.declared.trials.Expansion.{Expansion}
use Rattle.dsa_explore.specs.{Trials.{AreExpansions, IsAhead}, Walked.{space_of}}
use Rattle.dsa_explore.proofs.Ahead.{ahead-none, ahead-on, ahead-all, ahead-reached}
use Rattle.dsa_explore.proofs.Lawful.{byte-keys, space-lawful}

pub loop-number-init : goal.loop-number-init
loop-number-init g c = (
  λ first table begun front is.
      let caps = c.args.plan.now.caps in
      let script = c.args.plan.now.script.now in
      ahead-none (space_of caps script) (space-lawful caps script) byte-keys first c.args.search.now table is front,
  (refl, (refl, (omega arith, λ fits. fits))),
)

pub returns-in-Some-clause-halted : goal.returns-in-Some-clause-halted
returns-in-Some-clause-halted g c = λ first table begun front is room.
    let space = space_of c.args.plan.now.caps c.args.plan.now.script.now in
    let a = c.loop-number.invariant.0 first table begun front is in
    (rw (c.in-Some.is, c.as_slice.ensures.value) at c.in_ok-halt.ensures.halted) first table c.args.bounds.key_bytes a
    (omega (
      arith,
      c.in_ok-expansions.ensures.count,
      c.end_of_part-end.ensures.stored,
      c.len.ensures.count,
      c.len-in-loop-number.ensures.count,
      a.is_search.table_is.count,
    ))
    (room ∙ sym c.loop-number.invariant.1.1.0)
    (c.in_ok-expansions.ensures.each first a.more begun a.is_search)

pub loop-number-preserved : goal.loop-number-preserved
loop-number-preserved g c = (
  λ first table begun front is.
      let space = space_of c.args.plan.now.caps c.args.plan.now.script.now in
      let a = c.loop-number.invariant.0 first table begun front is in
      subst (λ (n : ℕ). IsAhead space first table c.expand_part.new.search n) c.in_ok-expansions.ensures.count
      ((rw (c.in_default.is, c.as_slice.ensures.value) at c.in_ok-halt.ensures.ahead) first table
      c.args.bounds.key_bytes a
      (omega (
        arith,
        c.in_ok-expansions.ensures.count,
        c.end_of_part-end.ensures.stored,
        c.len.ensures.count,
        c.len-in-loop-number.ensures.count,
        a.is_search.table_is.count,
      ))
      (c.in_ok-expansions.ensures.each first a.more begun a.is_search)),
  (
    c.in_ok-halt.ensures.most ∙ c.loop-number.invariant.1.0,
    (
      c.in_ok-halt.ensures.width ∙ c.loop-number.invariant.1.1.0,
      (
        omega (arith, c.end_of_part-end.ensures.stored, c.len-in-loop-number.ensures.room, c.in_ok-halt.ensures.most),
        λ fits. c.in_ok-halt.ensures.early (c.loop-number.invariant.1.1.1.1 fits),
      ),
    ),
  ),
)

pub returns-clause-searched : goal.returns-clause-searched
returns-clause-searched g c = λ first table fine begun front is.
    let caps = c.args.plan.now.caps in
    let script = c.args.plan.now.script.now in
    ahead-all (space_of caps script) (space-lawful caps script) byte-keys first table c.loop-number.search c.loop-number.number fine
    (c.loop-number.invariant.0 first table begun front is) (omega (arith, c.len.ensures.count, c.loop-number-test.false))

pub returns-clause-reached : goal.returns-clause-reached
returns-clause-reached g c = λ first table fine begun front is.
    let caps = c.args.plan.now.caps in
    let script = c.args.plan.now.script.now in
    ahead-reached (space_of caps script) (space-lawful caps script) byte-keys first table c.loop-number.search c.loop-number.number fine
    (c.loop-number.invariant.0 first table begun front is) (omega (arith, c.len.ensures.count, c.loop-number-test.false))
