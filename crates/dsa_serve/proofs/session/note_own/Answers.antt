use Rattle.dsa_serve.proofs.session.note_own.Goals as goal
use Rattle.std.proofs.Common.{sym, ◌∷◌, []}
use Rattle.dsa_serve.specs.Names.{names_in}
use Rattle.dsa_serve.proofs.Asking.{unnamed}

pub returns-in_default : goal.returns-in_default
returns-in_default c = rw c.in_default.is (sym (unnamed (names_in c.args.names.now) (c.args.entry.now ∷ [])))
