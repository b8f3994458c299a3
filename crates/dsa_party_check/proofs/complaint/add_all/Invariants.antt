use Rattle.dsa_party_check.proofs.complaint.add_all.Given as goal
use Rattle.std.proofs.Common.{◌≡◌, ◌++◌, map}
use Rattle.std.specs.Vec.Iter.{into_iter_items}
use Rattle.dsa_party_check.specs.Complaints.{complained}

-- it is left to add the others
abbrev pub invariant-loop-complaint : goal.invariant-loop-complaint
invariant-loop-complaint l =
    map complained l.complaints.items ++ map complained (into_iter_items l.complaint-iterator)
    ≡ map complained l.initial.complaints.items ++ map complained l.fn.more.items
