use Rattle.dsa_check.proofs.repeats.note_key.Goals as goal
use Rattle.dsa_check.specs.Repeats.{has_text}
use Rattle.dsa_check.proofs.Repeated.{got, got_again, was_there}

pub returns-in_ok-insert-2-clause-again : goal.returns-in_ok-insert-2-clause-again
returns-in_ok-insert-2-clause-again c text =
    let key = c.args.key in
    let seen = has_text c.args.seen.now in
    got_again key.now text seen _ _ (was_there _ (seen key.now) c.in_ok-insert.ensures.added c.if-not-branch.true)
    (c.in_ok-insert-2.ensures.updates.0 (record { ref_ptr = key.ref_ptr; now = text }))

pub returns-else-not-branch-clause-seen : goal.returns-else-not-branch-clause-seen
returns-else-not-branch-clause-seen c text =
    let key = c.args.key in
    got key.now text _ _ (c.in_ok-insert.ensures.updates.0 (record { ref_ptr = key.ref_ptr; now = text }))
