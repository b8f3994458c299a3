use Rattle.dsa_count.proofs.submissions.submissions_in.Goals as goal
use Rattle.dsa_count.specs.Submissions.{submission_in}
use Rattle.dsa_count.proofs.Gathering.{gathered}

pub loop-entry-preserved : goal.loop-entry-preserved
loop-entry-preserved c =
    gathered submission_in c.args.records.now c.loop-entry.entry-index _ _ _ c.loop-entry-test.true
    c.in_ok-note_submission.ensures c.loop-entry.invariant
