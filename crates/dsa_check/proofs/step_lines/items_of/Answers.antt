use Rattle.dsa_check.proofs.step_lines.items_of.Goals as goal
use Rattle.std.proofs.Common.{◌≡◌, map, sym}
use Rattle.std.specs.Prelude.{codes}
use Rattle.serde_json.specs.View.{view}
use Rattle.dsa_check.specs.Judgement.{step_items_of}
use Rattle.dsa_check.proofs.{Shallow.{items_shallow}, Steps.{items_are}}

pub returns-clause-items : goal.returns-clause-items
returns-clause-items c =
    let is : step_items_of (view c.args.document.now) ≡ map view c.as_slice.result.now =
    rw (← c.in-Some.ensures, ← c.in-Some-as_array.ensures, c.as_slice.ensures.value) (items_are _) in
    sym is

pub returns-clause-shallow : goal.returns-clause-shallow
returns-clause-shallow c =
    rw c.as_slice.ensures.value
    (items_shallow (codes "steps") (view c.args.document.now) _ _ c.in-Some.ensures c.in-Some-as_array.ensures
    c.requires)
