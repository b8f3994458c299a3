use Rattle.dsa_worked.proofs.steady.numbers_of_commands.Goals as goal
use Rattle.std.proofs.Common.{◌≡◌, ◌≤◌, ap, arith, lit≤, refl, subst}
use Rattle.std.specs.Prelude.{Option, Some, unwrap_or}
use Rattle.dsa_regs.specs.declared.Command.TheVariants.{DrainAll}
use Rattle.dsa_book.specs.declared.note.ActiveCommand.{ActiveCommand}
use Rattle.dsa_store.specs.Content.{count_where}
use Rattle.dsa_admin.specs.Admin.{is_watched}
use Rattle.dsa_worked.specs.Values.{three_lists}

pub returns-clause-no_command : goal.returns-clause-no_command
returns-clause-no_command c = record {
  counts = λ active is. absurd (grind (arith, is));
  mark = λ active is. absurd (grind (arith, is));
}

-- what holds of the one active command
only : (P : ActiveCommand → Type 0) (one : ActiveCommand) → P one → (active : ActiveCommand)
    → Some one ≡ Some active → P active
only P one holds active is = subst P (ap (λ (o : Option ActiveCommand). unwrap_or o one) is) holds

pub returns-clause-counted : goal.returns-clause-counted
returns-clause-counted c = record {
  counts = only (λ active. 2 ≡ count_where (is_watched active) three_lists) (record { command = DrainAll; mark = 5 }) refl;
  mark = only (λ active. active.mark ≤ 5) (record { command = DrainAll; mark = 5 }) (lit≤ tt);
}

pub returns-clause-miscounted : goal.returns-clause-miscounted
returns-clause-miscounted c is = omega (arith, is.counts _ refl)

pub returns-clause-mark : goal.returns-clause-mark
returns-clause-mark c is = omega (arith, is.mark _ refl)

pub returns-clause-unrefused : goal.returns-clause-unrefused
returns-clause-unrefused c = record { known = refl; ready = refl; checked = refl }
