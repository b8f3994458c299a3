use Rattle.dsa_parties.proofs.making.are_in_order.Given as goal
use Rattle.std.proofs.Common.{◌≡◌, true, slice_get}
use Rattle.std.specs.List.{list_all}
use Rattle.dsa_base.specs.{Rows.{passes}, Numbers.{numbers_below}}
use Rattle.dsa_parties.specs.declared.script.ScriptEntry.{ScriptEntry}
use Rattle.dsa_parties.specs.Scripts.{is_in_order}

-- each entry before is in order
abbrev pub invariant-loop-label : goal.invariant-loop-label
invariant-loop-label l =
    list_all
    (λ label. passes (λ (e : ScriptEntry). is_in_order l.entries label e.desc e.origin) (slice_get l.entries label))
    (numbers_below l.label) ≡ true
