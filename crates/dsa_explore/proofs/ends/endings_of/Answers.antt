use Rattle.dsa_explore.proofs.ends.endings_of.Goals as goal
use Rattle.std.proofs.Common.{◌∙◌, List, arith, refl, subst, take, sym, []}
use Rattle.std.proofs.lemmas.List.{take_all}
use Rattle.dsa_keys.specs.Parties.{Stored}
use Rattle.dsa_parties.specs.Standing.{Standing}
use Rattle.dsa_explore.specs.Ends.{AreEndingsOf}
use Rattle.dsa_explore.proofs.{Growth.{In-get, get-at}, Endings.{endings-more, no-endings, take-next}}

pub loop-number-init : goal.loop-number-init
loop-number-init c = (
  λ first table begun is room.
      subst (AreEndingsOf c.args.plan.now.script.now []) (sym c.new-endings.ensures.items)
      (no-endings c.args.plan.now.script.now),
  refl,
)

pub loop-number-preserved : goal.loop-number-preserved
loop-number-preserved c = (
  λ first table begun is room.
      let script = c.args.plan.now.script.now in
      let x = get-at table c.loop-number.number (omega (
        arith,
        c.loop-number-test.true,
        c.len-number-end.ensures.count,
        is.table_is.count,
      )) in
      subst (λ (l : List (Stored Standing)). AreEndingsOf script l c.note_at.new.endings.items)
      (take-next table c.loop-number.number x.0 x.1)
      (endings-more script (take c.loop-number.number table) x.0 c.loop-number.endings.items c.note_at.new.endings.items
      (c.loop-number.invariant.0 first table begun is room)
      (c.in_ok-note_at.ensures.noted c.if-not-branch.false first table x.0 begun is x.1
      (c.loop-number.invariant.1 ∙ room))),
  c.in_ok-note_at.ensures.room ∙ c.loop-number.invariant.1,
)

pub returns-then-not-branch-clause-none : goal.returns-then-not-branch-clause-none
returns-then-not-branch-clause-none c = λ first table begun is behind.
    let x = get-at table c.loop-number.number (omega (
      arith,
      c.loop-number-test.true,
      c.len-number-end.ensures.count,
      is.table_is.count,
    )) in
    omega (
      arith,
      c.in_ok-note_at.ensures.stops c.if-not-branch.true first table x.0 begun is x.1,
      behind x.0 (In-get table c.loop-number.number x.0 x.1),
    )

pub returns-clause-endings : goal.returns-clause-endings
returns-clause-endings c = λ first table begun is room.
    subst (λ (l : List (Stored Standing)). AreEndingsOf c.args.plan.now.script.now l c.loop-number.endings.items)
    (take_all c.loop-number.number table (omega (
      arith,
      c.loop-number-test.false,
      c.len-number-end.ensures.count,
      is.table_is.count,
    ))) (c.loop-number.invariant.0 first table begun is room)
