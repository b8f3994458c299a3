use Rattle.dsa_count.proofs.submissions.submissions_in.Given as goal
use Rattle.std.proofs.Common.{◌≡◌, ◌++◌, drop}
use Rattle.std.specs.List.{filter_map}
use Rattle.dsa_count.specs.Submissions.{submission_in}

abbrev pub invariant-loop-entry : goal.invariant-loop-entry
invariant-loop-entry l =
    l.submissions.items ++ filter_map submission_in (drop l.entry-index l.records)
    ≡ filter_map submission_in l.records
