use Rattle.dsa_parties.proofs.making.has_members_behind.Given as goal
use Rattle.std.proofs.Common.{◌≡◌, true}
use Rattle.std.specs.List.{list_all}
use Rattle.dsa_base.specs.Numbers.{numbers_below}
use Rattle.dsa_parties.specs.Scripts.{is_member_at, member_label}

-- each member before stands there
abbrev pub invariant-loop-k : goal.invariant-loop-k
invariant-loop-k l =
    list_all (λ k. is_member_at l.entries l.label (member_label l.label k)) (numbers_below l.k) ≡ true
