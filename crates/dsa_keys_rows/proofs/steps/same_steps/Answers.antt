use Rattle.dsa_keys_rows.proofs.steps.same_steps.Goals as goal
use Rattle.std.proofs.Common.{◌≡◌, [], ◌∷◌, Some, None, ap, arith, lit≤, refl}
use Rattle.dsa_regs.specs.declared.Command.TheVariants.{DrainAll}
use Rattle.dsa_book.specs.declared.fate.Fate.TheVariants.{Completed}
use Rattle.dsa_book.specs.declared.answer.{Reply.TheVariants.{Poll}, PollAnswer.TheVariants.{Active, Nothing}}
use Rattle.dsa_worked.specs.Setup.{row}
use Rattle.dsa_keys_rows.proofs.Ends.{told}

pub returns-clause-other_reply : goal.returns-clause-other_reply
returns-clause-other_reply c is = let same : Poll Active ≡ Poll Nothing = is.replies in absurd cc

pub returns-clause-other_key : goal.returns-clause-other_key
returns-clause-other_key c is = let same : Some DrainAll ≡ None = ap (λ key. key.command) is.keys in absurd cc

pub returns-clause-leads_nowhere : goal.returns-clause-leads_nowhere
returns-clause-leads_nowhere c is = let none : None ≡ Some is.t' = is.leads in absurd cc

pub returns-clause-later_mark : goal.returns-clause-later_mark
returns-clause-later_mark c is = omega (arith, is.marked _ refl)

pub returns-clause-one_label : goal.returns-clause-one_label
returns-clause-one_label c is = omega (arith, is.distinct 0 1 (lit≤ tt) (lit≤ tt) refl)

pub returns-clause-no_lists : goal.returns-clause-no_lists
returns-clause-no_lists c is = omega (arith, is.well_formed.shape.lists)

pub returns-clause-other_ends : goal.returns-clause-other_ends
returns-clause-other_ends c is = grind (arith, told (row 4 None (Completed 1) ∷ []) [] is.ends)

pub returns-clause-first_unlabelled : goal.returns-clause-first_unlabelled
returns-clause-first_unlabelled c is = omega (arith, is.left.marked _ refl)

pub returns-clause-second_unlabelled : goal.returns-clause-second_unlabelled
returns-clause-second_unlabelled c is = omega (arith, is.right.marked _ refl)

pub returns-clause-leads_elsewhere : goal.returns-clause-leads_elsewhere
returns-clause-leads_elsewhere c is = omega (arith, is.is_same.left.marked _ refl)
