use Rattle.dsa_explain.proofs.held.awaited_names_are_told.Goals as goal
use Rattle.dsa_admin.specs.Admin.{is_waited_for}
use Rattle.dsa_explain.proofs.Holding.{all-named}

pub returns : goal.returns
returns c = λ s noted. all-named s.work.setup.caps (is_waited_for noted) 0 s.work.content
