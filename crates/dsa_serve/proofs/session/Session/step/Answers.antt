use Rattle.dsa_serve.proofs.session.Session.step.Goals as goal
use Rattle.std.proofs.Common.{◌++◌, refl, ap, ◌∙◌, append_assoc, string_bytes}
use Rattle.std.proofs.lemmas.Result.{on_ok_weaker}
use Rattle.dsa_scenario.specs.{Lines.{record_text, line_of_text}, Steps.{visit}}
use Rattle.dsa_conform.specs.Seen.{seen_as, shows}
use Rattle.dsa_serve.specs.{Requests.{Step}, Answers.{difference}}
use Rattle.dsa_serve.proofs.Sessions.{stepped, plain_line}

pub returns : goal.returns
returns g c =
    let it = c.in_ok-entry.ensures in
    let entry = c.in_ok-entry.field-0.entry in
    let seen = seen_as c.args.seen.now in
    let now = c.args.self.now in
    on_ok_weaker c.add_record.result
    (λ line. (
      entry,
      λ caps capacity requests records written h. rw c.in_ok-number.ensures.more
          (stepped caps capacity requests records (Step c.args.action seen) (c.args.action, seen) now.number
          _ _ _ _ now.told written _ _ (difference (shows seen entry) ++ line_of_text (record_text entry))
          entry c.event_for-asked.result refl
          (λ before t. c.event_for-asked.ensures before (rw c.deref.ensures.value t))
          it.closest c.in_ok-note_ticket.ensures
          (line ∙ ap (λ l. l ++ line_of_text (record_text entry)) (c.in_ok-add_difference.ensures
          ∙ ap (λ b. string_bytes c.args.text.now ++ difference b) it.shown)
          ∙ append_assoc (string_bytes c.args.text.now) (difference (shows seen entry))
          (line_of_text (record_text entry)))
          (plain_line now.device now.told c.args.action seen
          (visit now.number now.device entry c.follow_closest.new.device))
          ((record { number_is = refl; before = refl; leads = it.closest.leads }, tt), refl) h),
      c.in_ok-note_own.ensures,
    ))
    c.add_record.ensures
