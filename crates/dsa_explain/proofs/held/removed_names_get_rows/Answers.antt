use Rattle.dsa_explain.proofs.held.removed_names_get_rows.Goals as goal
use Rattle.dsa_regs.specs.Command.{scope_of}
use Rattle.dsa_book.specs.Commands.{is_in_scope}
use Rattle.dsa_explain.proofs.Holding.{all-named}

pub returns : goal.returns
returns c = λ s command. all-named s.work.setup.caps (is_in_scope (scope_of command)) 0 s.work.content
