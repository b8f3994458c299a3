use Rattle.dsa_exploration.proofs.showing.show_row.Goals as goal
use Rattle.std.proofs.Common.{◌∙◌, Some, ap, arith}
use Rattle.dsa_exploration.proofs.Shown.{first-as, none-as, none-shown, row-shown, row-within}

pub returns-in_default : goal.returns-in_default
returns-in_default c = λ bytes search called ways.
    none-shown c.args.showing.now.bounds c.args.showing.now.row.now bytes called c.args.searched.now.explored search _ _
    (none-as _ _ _ _ _ _ _ c.as_slice-labels.ensures.value c.as_slice-acts.ensures.value c.as_slice.ensures.value
    (rw c.in_default.is at c.in_ok-row.ensures.none))
    (c.fault_alone.ensures.fault ∙ ap Some c.fault_without_row.ensures) c.fault_alone.ensures.text

pub returns-in_default-2 : goal.returns-in_default-2
returns-in_default-2 c = λ bytes search called ways.
    absurd ((rw c.in_default-2.is at (c.in_ok-steps.ensures.none ways))
    (row-within c.args.showing.now.bounds c.args.showing.now.row.now bytes called c.args.searched.now.explored search
    c.in-Some.row
    (first-as _ _ _ _ _ _ _ _ c.as_slice-labels.ensures.value c.as_slice-acts.ensures.value c.as_slice.ensures.value
    (rw c.in-Some.is at c.in_ok-row.ensures.found))))

pub returns : goal.returns
returns c = λ bytes search called ways.
    row-shown c.args.showing.now.bounds c.args.showing.now.row.now bytes called c.args.searched.now.explored search
    c.in-Some.row
    (first-as _ _ _ _ _ _ _ _ c.as_slice-labels.ensures.value c.as_slice-acts.ensures.value c.as_slice.ensures.value
    (rw c.in-Some.is at c.in_ok-row.ensures.found)) c.in-Some-2.steps.items _ _
    (rw c.in-Some-2.is at c.in_ok-steps.ensures.shown) (omega (arith, c.len.ensures, c.in-Some-2.steps.ok.0))
    (rw c.new-text.ensures.bytes at (rw c.as_slice-2.ensures.value at c.in_ok-add_document.ensures))
