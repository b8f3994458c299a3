-- What the scopes of commands share.
use Rattle.std.proofs.Common.{◌≡◌, false, refl}
use Rattle.dsa_regs.specs.{declared.Scope.{Scope, TheVariants.{Device, Pasid}}, Command.{queues_in}}
use Rattle.dsa_store.specs.declared.entry.Entry.{Entry}
use Rattle.dsa_book.specs.Commands.{is_in_scope, is_among}

-- what is not in the scope is of none of its queues
pub unnamed : (scope : Scope) (e : Entry) → is_in_scope scope e ≡ false → is_among (queues_in scope) e.queue ≡ false
unnamed Device e h = absurd cc
unnamed (Pasid pasid) e h = refl
unnamed _ e h = h
