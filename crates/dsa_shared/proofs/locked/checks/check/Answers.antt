use Rattle.dsa_shared.proofs.locked.checks.check.Goals as goal
use Rattle.std.proofs.{Common.{ℕ, Some, ap, subst}, lemmas.Option.{same_Some}}
use Rattle.dsa_shared.specs.declared.settle.SettleFault.{SettleFault, TheVariants.{SeatMissing, ReceiptMismatch}}
use Rattle.dsa_shared.specs.Settle.{IsFirstMismatch}
use Rattle.dsa_shared.proofs.Mismatches.{mismatch_once}

abbrev position : SettleFault → ℕ
position (ReceiptMismatch i) = i
position SeatMissing = 0

pub returns-in-Some-clause-mismatch : goal.returns-in-Some-clause-mismatch
returns-in-Some-clause-mismatch g c i =
    let seats = c.args.seats.now in
    let complete = c.is_complete.ensures.0 c.if-not-is_complete.false in
    let P : ℕ → Type 0 = λ n. IsFirstMismatch c.args.history.now seats.clients.items seats.engines.items seats.admin
    n in (
      λ e. (complete, subst P (ap position (same_Some _ _ e)) c.in-Some.ensures.some),
      λ m. ap (λ n. Some (ReceiptMismatch n))
          (mismatch_once c.args.history.now _ _ _ _ _ c.in-Some.at i complete c.in-Some.ensures.some m.1),
    )
