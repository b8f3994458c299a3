use Rattle.dsa_conform.proofs.closest.dispatch_closest.Goals as goal
use Rattle.std.proofs.Common.{◌≡◌, ◌∙◌, sym, ap, true, false}
use Rattle.std.proofs.lemmas.Result.{IfOk-weaker}
use Rattle.dsa_scenario.specs.Run.{answered_by}
use Rattle.dsa_conform.specs.Seen.{seen_as}
use Rattle.dsa_conform.proofs.{Choices.{is_offer}, ClosestAnswers.{dispatch_closest, shown_offer}}

pub returns-in-Some-clause-closest : goal.returns-in-Some-clause-closest
returns-in-Some-clause-closest g c =
    let w = c.args.device.now.state.work in
    let found = rw c.in-Some.is at c.in_ok-queue.ensures in
    let shown = shown_offer w c.args.engine c.in-Some.queue (seen_as c.args.seen.now) found.0
    c.take-entry.result found.1 found.2 c.take-entry.ensures.offered in
    record {
      answers = ap answered_by (is_offer w c.args.engine c.in-Some.queue c.take-entry.result
          c.take-entry.ensures.offered).is;
      leads = c.take-entry.ensures.leads;
      best = λ other. let not : true ≡ false = sym shown ∙ other in absurd cc;
    }

pub returns-in-Some-clause-shown : goal.returns-in-Some-clause-shown
returns-in-Some-clause-shown g c =
    let found = rw c.in-Some.is at c.in_ok-queue.ensures in
    sym (shown_offer c.args.device.now.state.work c.args.engine c.in-Some.queue (seen_as c.args.seen.now) found.0
    c.take-entry.result found.1 found.2 c.take-entry.ensures.offered)

pub returns-clause-closest : goal.returns-clause-closest
returns-clause-closest g c =
    IfOk-weaker c.ask_closest.result _ _ (λ it gone.
    dispatch_closest c.args.device.now _ c.args.engine (seen_as c.args.seen.now) it.entry c.requires
    (rw c.in_default.is at c.in_ok-queue.ensures) gone.0 gone.1) c.ask_closest.ensures.gone
