use Rattle.dsa_store.proofs.plain.PlainStoreEntryStore.list_of.Goals as goal
use Rattle.std.proofs.Common.{sym}
use Rattle.dsa_store.proofs.{Steps.{found, unused}, Finding.{list_of-none}}

pub returns-in_err-list : goal.returns-in_err-list
returns-in_err-list g c = rw c.from_residual.ensures
    (sym (list_of-none _ _ (unused _ c.as_slice.ensures.value c.in_err-list.ensures)))

pub returns : goal.returns
returns g c = sym (found c.args.self.now c.as_slice.ensures.value c.in_ok-list.ensures).list
