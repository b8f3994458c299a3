use Rattle.dsa_explore.proofs.walking.try_once.Goals as goal
use Rattle.std.proofs.Common.{◌∙◌, ap, refl, sym}
use Rattle.dsa_explore.specs.Search.{queue_taken_from}

pub returns-clause-led : goal.returns-clause-led
returns-clause-led c =
    let made = rw c.in-Some.is at c.in_ok-reply.ensures.made in
    let before = c.in_ok-write_world.ensures.written c.if-not-branch.false in
    let after = c.in_ok-write_world-2.ensures.written c.if-not-branch-2.false in
    record {
      on = record { made = made.0; labels = rw c.in-Some.is at c.in_ok-reply.ensures.labels };
      other = λ e. c.if-are_equal.ensures.other refl (after ∙ e ∙ sym before);
      by = c.as_taken.ensures.by;
      queue = ap queue_taken_from made.1 ∙ sym c.as_taken.ensures.queue;
    }
