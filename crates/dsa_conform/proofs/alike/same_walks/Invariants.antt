use Rattle.std.proofs.Common.{◌≡◌}
use Rattle.dsa_conform.specs.Ways.{entries_only}
use Rattle.dsa_conform.proofs.alike.same_walks.Given as goal

-- what is left of both tells whether all is the same
abbrev pub invariant-loop-entry : goal.invariant-loop-entry
invariant-loop-entry g l =
    (entries_only l.first ≡ entries_only l.second → entries_only l.fn.first ≡ entries_only l.fn.second)
    × (entries_only l.fn.first ≡ entries_only l.fn.second → entries_only l.first ≡ entries_only l.second)
