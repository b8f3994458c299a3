use Rattle.dsa_explore.proofs.ends.ending_at.Goals as goal
use Rattle.std.proofs.Common.{◌≡◌, ◌∙◌, ap, sym, ℕ, List, None, Some}
use Rattle.std.specs.Prelude.{slice_get}
use Rattle.std.proofs.lemmas.Option.{same_Some}
use Rattle.dsa_keys.specs.Parties.{Stored}
use Rattle.dsa_parties.specs.Standing.{Standing}
use Rattle.dsa_explore.specs.declared.stored.Node.{Node}
use Rattle.dsa_explore.specs.Walked.{space_of, world_of}
use Rattle.dsa_explore.proofs.{Endings.{ending-as}, Growth.{get-mapped}, Ways.{tell-ways}}

pub returns-clause-ending : goal.returns-clause-ending
returns-clause-ending c = λ first table x begun is at.
    let there = (rw c.in-Ok.is at c.in_ok-walked.ensures.there) first table x begun is at in
    let here = get-mapped (λ (n : Node). n.level) c.args.search.now.nodes.items c.args.number c.in-Some.node
    (sym c.node_of.ensures ∙ c.in-Some.is) in
    let stored = sym (ap (λ (l : List ℕ). slice_get l c.args.number) is.table_is.levelled)
    ∙ get-mapped (λ (y : Stored Standing). y.level) table c.args.number x at in (
      ending-as c.args.plan.now.script.now _ (world_of c.in-Ok.walked.value) x.world there.keys
          (record {
            left = rw c.deref.ensures at c.in_ok-left.ensures;
            holds = rw c.deref-2.ensures at
                c.holds_entries.ensures;
          }),
      same_Some c.in-Some.node.level x.level (sym here ∙ stored),
    )

pub returns-in_default-clause-none : goal.returns-in_default-clause-none
returns-in_default-clause-none c = λ first table x begun is at.
    let space = space_of c.args.plan.now.caps c.args.plan.now.script.now in
    let node = (tell-ways space first c.args.search.now table is).each c.args.number x at in
    let clash : None ≡ Some node.0 = sym (sym c.node_of.ensures ∙ c.in_default.is) ∙ node.1 in
    absurd cc

pub returns-in_default-2-clause-none : goal.returns-in_default-2-clause-none
returns-in_default-2-clause-none c = λ first table x begun is at.
    ((rw c.in_default-2.is at c.in_ok-walked.ensures.halted) first table x begun is at).1
