use Rattle.dsa_count.proofs.submissions.above.Given as goal
use Rattle.std.proofs.Common.{◌≡◌, max, drop}
use Rattle.dsa_count.specs.Submissions.{above}

abbrev pub invariant-loop-made : goal.invariant-loop-made
invariant-loop-made l = record {
  so_far : max l.most (above l.party (drop l.made-index l.submissions)) ≡ above l.party l.submissions;
}
