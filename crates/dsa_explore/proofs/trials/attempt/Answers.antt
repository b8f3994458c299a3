use Rattle.dsa_explore.proofs.trials.attempt.Goals as goal
use Rattle.std.proofs.Common.{◌∙◌, List, ap, sym, refl, subst}
use Rattle.dsa_explore.specs.declared.found.Found.{Found}
use Rattle.dsa_explore.specs.{Asks.{ask_of}, Findings.{findings_of}, Rows.{AddsRows}, Search.{queue_taken_from}, Walked.{world_of}}

pub returns-then-not-branch-clause-long : goal.returns-then-not-branch-clause-long
returns-then-not-branch-clause-long c =
    let made = rw c.in-Some.is at c.in_ok-reply.ensures.made in (
      refl,
      (made.0.reply, made.0.leads, c.in_ok-write_world.ensures.too_long c.if-not-branch.true),
    )

pub returns-clause-trial : goal.returns-clause-trial
returns-clause-trial c = λ x there.
    let made = rw c.in-Some.is at c.in_ok-reply.ensures.made in
    let from = world_of c.args.walked.now in
    let to = world_of c.make_told.new.walked in
    record {
      from = from;
      to = to;
      reply = made.0.reply;
      there = there;
      leads = made.0.leads;
      fits = made.0.fits;
      by = c.as_taken.ensures.by;
      queue = ap queue_taken_from made.1 ∙ sym c.as_taken.ensures.queue;
      told = subst (λ (l : List Found). AddsRows 0 (findings_of (ask_of c.args.plan.now.script.now from.places
          c.args.tried.by) from to made.0.reply) l c.make_told.new.rows.items) c.new-rows.ensures.items made.0.told;
      key = c.in_ok-bytes.ensures.items ∙ c.as_slice.ensures.value ∙ c.in_ok-write_world.ensures.written c.if-not-branch.false;
    }

pub returns-clause-led : goal.returns-clause-led
returns-clause-led c =
    let made = rw c.in-Some.is at c.in_ok-reply.ensures.made in
    record { reply = made.0.reply; leads = made.0.leads; fits = made.0.fits }

pub returns-clause-key : goal.returns-clause-key
returns-clause-key c = c.in_ok-bytes.ensures.items ∙ c.as_slice.ensures.value ∙ c.in_ok-write_world.ensures.written c.if-not-branch.false
