use Rattle.dsa_explore.proofs.trying.come.Goals as goal
use Rattle.std.proofs.Common.{◌∙◌, ap, refl, sym, arith}
use Rattle.std.proofs.lemmas.Bool.{eqb-true}
use Rattle.dsa_explore.specs.{declared.walked.Walked.{Walked}, Ready.{is_filled}}

pub returns-then-not-is_full-clause-there : goal.returns-then-not-is_full-clause-there
returns-then-not-is_full-clause-there c = λ first table x begun is at there. there c.if-is_there.true

pub returns-clause-there : goal.returns-clause-there
returns-clause-there c = λ first table x begun is at there.
    (rw c.in-Ok.is at c.in_ok-again.ensures.there) first table x begun is at

pub returns-then-not-is_full-clause-room : goal.returns-then-not-is_full-clause-room
returns-then-not-is_full-clause-room c =
    ap (λ (w : Walked). is_filled w.machine.device) (sym c.deref.ensures)
    ∙ sym c.is_full.ensures ∙ c.if-not-is_full.true

pub returns-clause-room : goal.returns-clause-room
returns-clause-room c =
    ap (λ (w : Walked). is_filled w.machine.device) (sym c.deref-2.ensures)
    ∙ sym c.is_full-2.ensures ∙ c.if-is_full.false

pub returns-then-is_full-clause-halted : goal.returns-then-is_full-clause-halted
returns-then-is_full-clause-halted c = λ first table x begun is at.
    let left = (rw c.in-Ok.is at c.in_ok-again.ensures.room) first table x is at in
    let full = eqb-true _ _ (ap (λ (w : Walked). is_filled w.machine.device) (sym c.deref-2.ensures)
    ∙ sym c.is_full-2.ensures ∙ c.if-is_full.true) in
    (refl, omega (arith, full, left.few, left.room_is))
