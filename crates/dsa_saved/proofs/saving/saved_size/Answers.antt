use Rattle.dsa_saved.proofs.saving.saved_size.Goals as goal
use Rattle.std.proofs.Common.{sym, ap, ◌∙◌, ◌+◌, ◌*◌, length}
use Rattle.dsa_saved.proofs.Equal.{saved-length}

pub returns-clause-size : goal.returns-clause-size
returns-clause-size g c = ap (λ steps. 84 + 44 * length steps) c.history.ensures ∙ sym (saved-length c.args.device.now)
