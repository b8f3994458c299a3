use Rattle.dsa_keys_rows.proofs.steps.marks.Goals as goal
use Rattle.std.proofs.Common.{◌≡◌, ℕ, Option, ap, arith, refl}
use Rattle.std.specs.Prelude.{option_map, unwrap_or}
use Rattle.dsa_book.specs.declared.note.ActiveCommand.{ActiveCommand}

-- the mark of the command, where there is one
abbrev mark_in : Option ActiveCommand → ℕ
mark_in o = unwrap_or (option_map (λ (active : ActiveCommand). active.mark) o) 0

pub returns-clause-given : goal.returns-clause-given
returns-clause-given c active is = let mark : 19 ≡ active.mark = ap mark_in is in omega (arith, mark)

pub returns-clause-next_name : goal.returns-clause-next_name
returns-clause-next_name c active is = let mark : 20 ≡ active.mark = ap mark_in is in omega (arith, mark)

pub returns-clause-later : goal.returns-clause-later
returns-clause-later c lawful = omega (arith, lawful _ refl)

pub returns-clause-no_command : goal.returns-clause-no_command
returns-clause-no_command c active is = absurd cc
