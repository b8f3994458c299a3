use Rattle.dsa_explore.proofs.showing.show.Goals as goal
use Rattle.std.proofs.Common.{◌≡◌, ◌∙◌, ℕ, List, Some, sym, subst, ⊎_elim, arith}
use Rattle.std.specs.Prelude.{slice_get}
use Rattle.std.proofs.lemmas.Bool.{cases_eq}
use Rattle.dsa_explore.specs.declared.stored.Node.{Node}
use Rattle.dsa_explore.specs.{Walked.{space_of}, Ways.{TellWays}}
use Rattle.dsa_explore.proofs.{Growth.{get-below}, Kept.{when-not}, Whole.{In-place}}

pub loop-number-init : goal.loop-number-init
loop-number-init c = λ fits first table i x tried begun ways below. absurd (omega (arith, below))

pub loop-number-preserved : goal.loop-number-preserved
loop-number-preserved c = λ fits first table i x tried begun ways below at later tells.
    ⊎_elim (λ (same : i ≡ c.loop-number.number).
    when-not c.in_ok-found.found (sym c.is_some.ensures ∙ c.if-is_some.false) (c.in_ok-found.ensures.none fits) first table x tried begun ways
    (subst (λ (n : ℕ). slice_get table n ≡ Some x) same at) later tells)
    (λ other. c.loop-number.invariant fits first table i x tried begun ways (omega (arith, below, other)) at later tells)
    (cases_eq i c.loop-number.number)

pub returns-clause-none : goal.returns-clause-none
returns-clause-none c = λ keeps within.
    let script = c.args.plan.now.script.now in
    let t = keeps.told c.args.row.now within in
    let p = In-place t.from keeps.table t.within in
    c.loop-number.invariant (keeps.room c.args.row.now within) keeps.first keeps.table p.0 t.from t.tried keeps.begun
    (subst (λ (n : List Node). TellWays (space_of c.args.plan.now.caps script) keeps.first n keeps.table)
    (sym c.as_slice-nodes.ensures.value) keeps.ways)
    (omega (arith, get-below keeps.table p.0 t.from p.1, keeps.count, c.loop-number-test.false)) p.1 t.later t.tells
