use Rattle.dsa_explore.proofs.expanding.expand_part.Goals as goal
use Rattle.std.proofs.Common.{◌≡◌, ◌∙◌, ◌+◌, ◌<◌, ℕ, List, Some, length, refl, sym, ap, subst, arith}
use Rattle.std.specs.Prelude.{slice_get}
use Rattle.std.proofs.lemmas.Option.{slice_get-get_or}
use Rattle.dsa_keys.specs.Parties.{Stored}
use Rattle.dsa_explore.specs.declared.trials.Expansion.{Expansion}
use Rattle.dsa_parties.specs.Standing.{Standing}
use Rattle.dsa_explore.specs.{Trials.{IsAhead}, Walked.{space_of}}
use Rattle.dsa_explore.proofs.{Ahead.{ahead-here, ahead-more, ahead-next, ahead-on}, Lawful.{byte-keys, space-lawful}}

pub loop-expansion-init : goal.loop-expansion-init
loop-expansion-init c = (
  λ first table width a few each.
      let caps = c.args.plan.now.caps in
      let script = c.args.plan.now.script.now in
      ahead-here (space_of caps script) (space-lawful caps script) byte-keys first table c.args.search.now c.args.from a,
  (omega arith, (refl, (refl, λ fits. fits))),
)

pub returns-in-Some-clause-halted : goal.returns-in-Some-clause-halted
returns-in-Some-clause-halted c = λ first table width a few same each.
    let caps = c.args.plan.now.caps in
    let script = c.args.plan.now.script.now in
    let space = space_of caps script in
    let i = c.loop-expansion.expansion-index in
    let is = c.loop-expansion.invariant.1.0 in
    let b = c.loop-expansion.invariant.0 first table width a few each in
    let x = ahead-next space (space-lawful caps script) byte-keys first a.more c.loop-expansion.search
    c.loop-expansion.number b (omega (arith, few, is, c.loop-expansion-test.true)) in
    let e = each i c.expansion-item.result x.0
    (slice_get-get_or c.args.expansions.now i c.expansion-item.result c.loop-expansion-test.true
    ∙ ap (λ (e : Expansion). Some e) (sym c.expansion-item.is))
    (subst (λ (n : ℕ). slice_get a.more n ≡ Some x.0) is x.1.0) in
    (rw c.in-Some.is at c.in_ok-halt.ensures.halted) first b.more x.0 width b.is_search x.1.1 (b.front x.0 x.1.1)
    (same ∙ sym c.loop-expansion.invariant.1.1.1.0) e

pub loop-expansion-preserved : goal.loop-expansion-preserved
loop-expansion-preserved c = (
  λ first table width a few each.
      let caps = c.args.plan.now.caps in
      let script = c.args.plan.now.script.now in
      let space = space_of caps script in
      let i = c.loop-expansion.expansion-index in
      let is = c.loop-expansion.invariant.1.0 in
      let b = c.loop-expansion.invariant.0 first table width a few each in
      let x = ahead-next space (space-lawful caps script) byte-keys first a.more c.loop-expansion.search
      c.loop-expansion.number b (omega (arith, few, is, c.loop-expansion-test.true)) in
      let e = each i c.expansion-item.result x.0
      (slice_get-get_or c.args.expansions.now i c.expansion-item.result c.loop-expansion-test.true
      ∙ ap (λ (e : Expansion). Some e) (sym c.expansion-item.is))
      (subst (λ (n : ℕ). slice_get a.more n ≡ Some x.0) is x.1.0) in
      ahead-more space (space-lawful caps script) byte-keys first a.more c.loop-expansion.search c.expand.new.search
      c.loop-expansion.number x.0 b x.1.1
      ((rw c.in_default.is at c.in_ok-halt.ensures.expanded) first b.more x.0 width b.is_search x.1.1 e),
  (
    omega (arith, c.loop-expansion.invariant.1.0),
    (
      c.in_ok-halt.ensures.most ∙ c.loop-expansion.invariant.1.1.0,
      (
        c.in_ok-halt.ensures.width ∙ c.loop-expansion.invariant.1.1.1.0,
        λ fits. c.in_ok-halt.ensures.early (c.loop-expansion.invariant.1.1.1.1 fits),
      ),
    ),
  ),
)

pub returns-clause-ahead : goal.returns-clause-ahead
returns-clause-ahead c = λ first table width a few each.
    let caps = c.args.plan.now.caps in
    let script = c.args.plan.now.script.now in
    let space = space_of caps script in
    let b = c.loop-expansion.invariant.0 first table width a few each in
    let all : c.loop-expansion.number ≡ c.args.from + length c.args.expansions.now =
    omega (arith, c.loop-expansion.invariant.1.0, c.loop-expansion-test.false) in
    subst (λ (n : ℕ). IsAhead space first table c.loop-expansion.search n) all
    (ahead-on space (space-lawful caps script) byte-keys first table c.args.search.now c.loop-expansion.search
    c.args.from c.loop-expansion.number a b)
