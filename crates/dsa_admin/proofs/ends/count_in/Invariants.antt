use Rattle.dsa_admin.proofs.ends.count_in.Given as goal
use Rattle.std.{proofs.Common.{◌≡◌, ◌++◌}, specs.List.{count_by}}
use Rattle.dsa_store.specs.Content.{HeldEntry, chain}
use Rattle.dsa_admin.specs.Admin.{is_waited_for}

abbrev pub invariant-loop-entry : goal.invariant-loop-entry
invariant-loop-entry g l = record {
  parts : chain (g.S.EntryStore.content l.store) l.fn.list.0 ≡ l.yielded ++ l.entry-iterator;
  count : l.count ≡ count_by (λ (pair : HeldEntry). is_waited_for l.active pair.1) l.yielded;
}
