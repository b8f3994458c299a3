use Rattle.dsa_admin.proofs.ends.count_waited.Given as goal
use Rattle.std.proofs.Common.{◌≡◌, take}
use Rattle.dsa_store.specs.Content.{count_where}
use Rattle.dsa_admin.specs.Admin.{is_waited_for}

abbrev pub invariant-loop-list : goal.invariant-loop-list
invariant-loop-list g l = l.count ≡ count_where (is_waited_for l.active) (take l.list (g.S.EntryStore.content l.store))
